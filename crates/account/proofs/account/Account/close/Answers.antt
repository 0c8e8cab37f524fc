use Rattle.std.proofs.Common.{[], ◌∷◌, ◌++◌, map, take, sum, refl, ap, ◌∙◌, arith}
use Rattle.std.proofs.lemmas.List.{map_push}
use Rattle.settlement.specs.Prices.{prices_of}
use Rattle.settlement.specs.declared.prices.MonthPrices.{MonthPrices}
use Rattle.account.specs.Standing.{all_standing}
use Rattle.account.specs.View.{lengths_of, ledger_of}
use Rattle.account.proofs.Calls.{refuses_on, accepts}
use Rattle.account.proofs.Closing.{one_more, still_open}
use Rattle.account.proofs.account.Account.close.Goals as goal

pub returns-in_err-prices : goal.returns-in_err-prices
returns-in_err-prices g c =
    let a = c.args.self.now in
    refuses_on _ _ a _ _ (g.met.S.Supply.bound a.supply) refl _ _ c.in_err-prices.field-0.0 c.from_residual.ensures.1 c.in_err-prices.ensures refl

pub invariant_of-self : goal.invariant_of-self
invariant_of-self g c =
    let a = c.args.self.now in
    let found = c.in_ok-prices.ensures in
    let there = still_open g.S.Supply.whole g.S.Tariff.tables a c.args.prices found.0 in
    record {
      counted = omega (arith, c.push.ensures.len);
      complete = ap (λ n. all_standing (take (sum (take n (lengths_of a.calendar))) a.table.days)) c.push.ensures.len ∙ one_more g.S.Supply.whole g.S.Tariff.tables a c.args.prices found.0;
    }

pub returns : goal.returns
returns g c =
    let a = c.args.self.now in
    let found = c.in_ok-prices.ensures in
    let closed_is = ap (map prices_of) c.push.ensures.items ∙ map_push prices_of a.closed.items c.in_ok-prices.prices ∙ ap (λ (p : MonthPrices). map prices_of a.closed.items ++ p ∷ []) found.1 in
    accepts _ _ a _ _ (g.met.S.Supply.bound a.supply) refl _ found.0 found.2 (λ i. record { standing = (ledger_of a).standing; closed = closed_is i })
