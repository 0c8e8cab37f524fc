use Rattle.std.proofs.Common.{◌≡◌, None, sym, ap, ◌∙◌, arith}
use Rattle.std.specs.Option.{option_map}
use Rattle.settlement.specs.declared.prices.MonthPrices.{MonthPrices}
use Rattle.account.specs.Ledger.{month_ground, month_numbers}
use Rattle.account.specs.View.{opening_of, ledger_of}
use Rattle.account.specs.declared.fault.AccountFault.TheVariants.{Missing}
use Rattle.account.proofs.OpenMonth.{looked, open_numbered, numbered}
use Rattle.account.proofs.account.Account.open_month.Goals as goal

pub unwrap-settlement-requires : goal.unwrap-settlement-requires
unwrap-settlement-requires g c =
    let a = c.args.self.now in
    let whole = g.S.Supply.whole in
    let tables = g.S.Tariff.tables in
    let o = opening_of whole tables a in
    let given = c.in_ok-prices.ensures in
    let none : month_ground o (ledger_of a) c.args.prices ≡ None =
    looked whole tables a c.args.prices (omega (arith, c.months.ensures)) c.len-month.result c.days_of-days.result.start c.days_of-days.result.end c.first_missing.result c.len-month.ensures.value given.1 c.days_of-days.ensures.start c.days_of-days.ensures.end c.first_missing.ensures
    ∙ ap (option_map Missing) c.in_default.is in
    numbered c.settled.result (λ missing. open_numbered whole tables a c.args.prices c.len-month.result c.len-month.ensures.value (g.met.S.Supply.bound a.supply) none
    (sym (c.settled.ensures.numbers ∙ ap (λ (x : MonthPrices). month_numbers o (ledger_of a) c.len-month.result x) given.0) ∙ missing))
