use Rattle.std.proofs.Common.{take, vec_items}
use Rattle.account.specs.Runs.{Ran}
use Rattle.account.proofs.replay.run.Given as goal

abbrev pub invariant-loop-call : goal.invariant-loop-call
invariant-loop-call g l = Ran g.S.Supply.whole g.S.Tariff.tables l.initial.account l.account (take l.call-index l.calls) (vec_items l.answers)
