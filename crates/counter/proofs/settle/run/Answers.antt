use Rattle.std.proofs.Common.{◌≡◌, length, arith}
use Rattle.std.proofs.lemmas.Bool.Decides.{nat_tests}
use Rattle.counter.specs.View.{book_of}
use Rattle.counter.proofs.Running.{ran_none, ran_more, ran_count, ran_bytes, ended_empty, ended_last}
use Rattle.counter.proofs.settle.run.Goals as goal

pub loop-number-init : goal.loop-number-init
loop-number-init c = ran_none (book_of c.args.counter.now) c.args.input.now c.args.out.now

pub loop-number-preserved : goal.loop-number-preserved
loop-number-preserved c =
    ran_more (book_of c.args.counter.now) c.args.input.now c.args.out.now c.loop-number.invariant c.take_slip.result.0 (omega arith) c.take_slip.ensures.line c.take_slip.ensures.shorter
    c.put-at.ensures.place c.put-at.ensures.near c.put-at.ensures.bytes (omega arith)

pub returns-then-is_empty-clause-count : goal.returns-then-is_empty-clause-count
returns-then-is_empty-clause-count c =
    let none : length c.loop-number.rest.now ≡ 0 = grind (arith, nat_tests) in
    ran_count (book_of c.args.counter.now) c.args.input.now c.args.out.now c.loop-number.invariant (omega arith) (ended_empty _ _ _ c.loop-number.invariant none)

pub returns-then-is_empty-clause-bytes : goal.returns-then-is_empty-clause-bytes
returns-then-is_empty-clause-bytes c =
    let none : length c.loop-number.rest.now ≡ 0 = grind (arith, nat_tests) in
    ran_bytes (book_of c.args.counter.now) c.args.input.now c.args.out.now c.loop-number.invariant (omega arith) (ended_empty _ _ _ c.loop-number.invariant none)

pub returns-clause-count : goal.returns-clause-count
returns-clause-count c =
    ran_count (book_of c.args.counter.now) c.args.input.now c.args.out.now c.loop-number.invariant (omega arith) (ended_last _ _ _ c.loop-number.invariant (omega arith))

pub returns-clause-bytes : goal.returns-clause-bytes
returns-clause-bytes c =
    ran_bytes (book_of c.args.counter.now) c.args.input.now c.args.out.now c.loop-number.invariant (omega arith) (ended_last _ _ _ c.loop-number.invariant (omega arith))
