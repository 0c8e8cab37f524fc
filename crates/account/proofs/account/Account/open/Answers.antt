use Rattle.account.proofs.Closing.{opens}
use Rattle.account.proofs.account.Account.open.Goals as goal

pub returns : goal.returns
returns g c =
    let found = c.in-Ok.ensures in
    opens g.S.Supply.whole g.S.Tariff.tables c.args.terms _ (g.met.S.Supply.bound c.args.supply) found.0 found.1 found.2 found.3 c.new.ensures c.new-2.ensures
