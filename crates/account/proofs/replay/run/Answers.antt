use Rattle.std.proofs.Common.{List, vec_items, subst}
use Rattle.std.proofs.lemmas.List.{take_more, take_all}
use Rattle.account.specs.Runs.{Ran}
use Rattle.account.specs.declared.call.Call.{Call}
use Rattle.account.proofs.Running.{ran_more}
use Rattle.account.proofs.replay.run.Goals as goal

pub loop-call-preserved : goal.loop-call-preserved
loop-call-preserved g c =
    ran_more g.S.Supply.whole g.S.Tariff.tables c.args.account.now c.loop-call.account _ _ _ _ _ _ _ c.loop-call.invariant c.apply.ensures
    (take_more c.args.calls.now c.loop-call.call-index _ c.loop-call-test.true)
    c.in_ok-push.ensures.items

pub returns : goal.returns
returns g c =
    let a = c.args.account.now in
    subst (λ (calls : List Call). Ran g.S.Supply.whole g.S.Tariff.tables a c.loop-call.account calls (vec_items c.loop-call.answers)) (take_all c.loop-call.call-index c.args.calls.now c.loop-call-test.false) c.loop-call.invariant
