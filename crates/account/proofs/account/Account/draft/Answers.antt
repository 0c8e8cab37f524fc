use Rattle.std.proofs.Common.{refl}
use Rattle.account.proofs.Calls.{refuses_on, accepts}
use Rattle.account.proofs.account.Account.draft.Goals as goal

pub returns-in_err-settlement : goal.returns-in_err-settlement
returns-in_err-settlement g c =
    let a = c.args.self.now in
    refuses_on _ _ a _ _ (g.met.S.Supply.bound a.supply) refl _ _ c.in_err-settlement.field-0.0 c.from_residual.ensures.1 c.in_err-settlement.ensures refl

pub returns : goal.returns
returns g c =
    let found = c.in_ok-settlement.ensures in
    accepts _ _ c.args.self.now _ _ (g.met.S.Supply.bound c.args.self.now.supply) refl _ found.0 found.2 refl
