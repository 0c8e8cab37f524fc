use Rattle.account.proofs.Running.{replays}
use Rattle.account.proofs.replay.replay.Goals as goal

pub returns : goal.returns
returns g c =
    replays g.S.Supply.whole g.S.Tariff.tables c.args.supply c.args.terms c.args.calls.now c.in_ok-account.account _ (g.met.S.Supply.bound c.args.supply) c.in_ok-account.ensures c.in_ok-answers.ensures
