use Rattle.counter.specs.View.{book_of}
use Rattle.counter.proofs.Running.{Ran}
use Rattle.counter.proofs.settle.run.Given as goal

abbrev pub invariant-loop-number : goal.invariant-loop-number
invariant-loop-number l = Ran (book_of l.initial.counter) l.input l.initial.out l.number l.at (book_of l.counter) l.rest l.out
