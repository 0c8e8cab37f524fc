use Rattle.std.proofs.Common.{◌≡◌, ◌<◌, ◌≤◌, length, get_or, Some, IfSome, refl, sym, ap, ◌∙◌, subst, arith, rules}
use Rattle.std.proofs.lemmas.Option.{gets}
use Rattle.std.proofs.lemmas.Bool.{cond-true, cond-false, lt-ltb, le-ltb}
use Rattle.std.specs.Option.{option_map}
use Rattle.settlement.specs.Prices.{prices_of}
use Rattle.settlement.specs.Rows.{used_rows}
use Rattle.settlement.specs.Settlements.{shown}
use Rattle.settlement.specs.declared.prices.MonthPrices.{MonthPrices}
use Rattle.account.specs.Ledger.{month_numbers, closed_numbers}
use Rattle.account.specs.View.{opening_of, ledger_of}
use Rattle.account.specs.declared.fault.AccountFault.TheVariants.{NotClosed}
use Rattle.account.proofs.Calls.{refuses_on, accepts, closed_count}
use Rattle.account.proofs.Closing.{closed_numbered, closed_prices}
use Rattle.account.proofs.OpenMonth.{numbered}
use Rattle.account.proofs.account.Account.show.Goals as goal

pub returns-in_err-prices : goal.returns-in_err-prices
returns-in_err-prices g c =
    let a = c.args.self.now in
    let late : length a.closed.items ≤ c.args.month = search (rules, gets) in
    let is : c.in_err-prices.field-0.0 ≡ NotClosed = search (rules, gets) in
    let ground = cond-false _ _ _ (le-ltb c.args.month (length (ledger_of a).closed) (omega (arith, closed_count a))) in
    refuses_on _ _ a _ _ (g.met.S.Supply.bound a.supply) refl _ _ c.in_err-prices.field-0.0 c.from_residual.ensures.1 (ground ∙ ap Some (sym is)) refl

pub unwrap-requires : goal.unwrap-requires
unwrap-requires g c =
    let a = c.args.self.now in
    let lt : c.from-month.result < length a.closed.items = search (rules, gets) in
    numbered c.settled.result (λ none. closed_numbered g.S.Supply.whole g.S.Tariff.tables a c.from-month.result _ (g.met.S.Supply.bound a.supply) lt (sym c.settled.ensures.numbers ∙ none))

pub returns : goal.returns
returns g c =
    let a = c.args.self.now in
    let o = opening_of g.S.Supply.whole g.S.Tariff.tables a in
    let there : c.from-month.result < length a.closed.items = search (rules, gets) in
    let kept : c.in_ok-prices.prices ≡ get_or a.closed.items c.from-month.result c.in_ok-prices.prices = search (rules, gets) in
    let own = ap prices_of kept ∙ sym (closed_prices a.closed.items c.from-month.result c.in_ok-prices.prices there) in
    let early : c.args.month < length (ledger_of a).closed = omega (arith, closed_count a) in
    let numbers = ap (option_map shown) c.unwrap.ensures in
    let lines = subst (λ r. IfSome r (λ s. s.credit_lines ≤ used_rows (shown s).credit.rows)) c.unwrap.ensures c.settled.ensures.lines in
    let numbered = ap (closed_numbers o (ledger_of a)) (sym c.from-month.ensures) ∙ sym (sym numbers ∙ c.settled.ensures.numbers ∙ ap (λ (p : MonthPrices). month_numbers o (ledger_of a) c.from-month.result p) own) in
    accepts _ _ a a _ (g.met.S.Supply.bound a.supply) refl _ (cond-true _ _ _ (lt-ltb _ _ early)) (shown c.unwrap.result, c.unwrap.result.credit_lines, numbered, refl, lines) refl
