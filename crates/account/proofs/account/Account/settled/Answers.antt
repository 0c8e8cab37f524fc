use Rattle.std.proofs.Common.{sym, ap, ◌∙◌}
use Rattle.std.specs.Option.{option_map}
use Rattle.settlement.specs.Prices.{prices_of}
use Rattle.settlement.specs.Settlements.{shown}
use Rattle.settlement.specs.Settling.{numbers}
use Rattle.settlement.specs.Totals.{month_of, all_figures}
use Rattle.account.specs.View.{opening_of}
use Rattle.account.proofs.Held.{month_gathered, classes_of, settled_fits}
use Rattle.account.proofs.account.Account.settled.Goals as goal

pub returns-in_err-totals-clause-numbers : goal.returns-in_err-totals-clause-numbers
returns-in_err-totals-clause-numbers g c =
    let a = c.args.self.now in
    let o = opening_of g.S.Supply.whole g.S.Tariff.tables a in
    let found = month_gathered g.S.Supply.whole g.S.Tariff.tables a (g.S.Tariff.meaning a.supply) c.args.month c.days_of-days.result.start c.days_of-days.result.end c.day_number-first.result c.part.result.now (g.met.S.Supply.tariff a.supply) c.requires c.days_of-days.ensures.start c.days_of-days.ensures.end c.day_number-first.ensures c.part.ensures in
    let none = sym (ap (option_map month_of) c.in_err-totals.was) ∙ c.gather.ensures ∙ found in
    ap (option_map shown) c.from_residual.ensures ∙ ap (option_map (numbers o.meaning o.tables o.box (prices_of c.args.prices))) none

pub returns-clause-numbers : goal.returns-clause-numbers
returns-clause-numbers g c =
    let a = c.args.self.now in
    let o = opening_of g.S.Supply.whole g.S.Tariff.tables a in
    let found = month_gathered g.S.Supply.whole g.S.Tariff.tables a (g.S.Tariff.meaning a.supply) c.args.month c.days_of-days.result.start c.days_of-days.result.end c.day_number-first.result c.part.result.now (g.met.S.Supply.tariff a.supply) c.requires c.days_of-days.ensures.start c.days_of-days.ensures.end c.day_number-first.ensures c.part.ensures in
    let t = c.in_ok-totals.totals in
    let some = sym (ap (option_map month_of) c.in_ok-totals.was) ∙ c.gather.ensures in
    let same = classes_of (g.S.Tariff.meaning a.supply) c.day_number-first.result (all_figures c.part.result.now) t some ∙ g.met.S.Tariff.kind a.supply in
    let fits = settled_fits g.S.Tariff.CLASSES o.meaning o.tables o.box (prices_of c.args.prices) t c.settle.result same c.settle.ensures in
    fits.0 ∙ ap (option_map (numbers o.meaning o.tables o.box (prices_of c.args.prices))) (some ∙ found)
