use Rattle.std.proofs.Common.{◌≡◌, ◌<◌, ◌≤◌, List, length, Some, None, Option, refl, ap, ◌∙◌, arith, rules}
use Rattle.std.proofs.lemmas.List.{length-map}
use Rattle.std.specs.Option.{option_map}
use Rattle.settlement.specs.Totals.{figures_of, all_figures, month_of}
use Rattle.settlement.specs.declared.reading.Reading.{Reading}
use Rattle.settlement.proofs.Adding.{sum_zeros}
use Rattle.settlement.proofs.Gathering.{figures_at, so_far_none, day_more, missing}
use Rattle.settlement.proofs.totals.methods.gather.Goals as goal

pub loop-i-init : goal.loop-i-init
loop-i-init g c =
    let kind = g.met.T.Tariff.kind c.args.tariff.now in
    let few : g.T.Tariff.CLASSES ≤ 4 = omega (arith, (g.met.T.Tariff.lawful c.args.tariff.now).few_classes) in
    (refl, sum_zeros g.T.Tariff.CLASSES 4, omega arith, omega arith, so_far_none _ _ _ g.T.Tariff.CLASSES kind few)

-- the figures of the days are as many as the days
many : (days : List (Option Reading)) → length (all_figures days) ≡ length days
many days = simp length-map

pub returns-in_err-reading : goal.returns-in_err-reading
returns-in_err-reading g c =
    let days = c.args.days.now in
    let there : c.loop-i.i < length (all_figures days) = omega (arith, many days) in
    let is : c.index-days-i.result ≡ None = search rules in
    ap (option_map month_of) c.from_residual.ensures
    ∙ missing (g.T.Tariff.meaning c.args.tariff.now) c.args.first (all_figures days) c.loop-i.i there (figures_at days c.loop-i.i _ c.loop-i-test.true c.index-days-i.is ∙ ap (option_map figures_of) is)

pub loop-i-preserved : goal.loop-i-preserved
loop-i-preserved g c =
    let kind = g.met.T.Tariff.kind c.args.tariff.now in
    let few : g.T.Tariff.CLASSES ≤ 4 = omega (arith, (g.met.T.Tariff.lawful c.args.tariff.now).few_classes) in
    let four : length c.add_classes.new.sums ≡ 4 = search rules in
    let days = c.args.days.now in
    let there : c.loop-i.i < length (all_figures days) = omega (arith, many days) in
    let used = c.loop-i.invariant.1 in
    let read : c.index-days-i.result ≡ Some c.in_ok-reading.reading.now = search rules in
    let used_Low = c.loop-i.invariant.2 in
    let surplus-low = c.loop-i.invariant.3 in (
      four,
      omega (arith, c.add_classes.ensures.all, c.total-used.ensures.value),
      omega (arith, c.total-used.ensures.bound),
      omega (arith, c.total-surplus.ensures.bound),
      day_more (g.T.Tariff.meaning c.args.tariff.now) c.args.first (all_figures days) g.T.Tariff.CLASSES c.loop-i.i c.loop-i.used c.loop-i.surplus c.total-used.result c.total-surplus.result c.loop-i.by_class c.add_classes.new.sums _ kind (omega arith) there (figures_at days c.loop-i.i _ c.loop-i-test.true c.index-days-i.is ∙ ap (option_map figures_of) read) c.total-used.ensures.value c.total-surplus.ensures.value c.add_classes.ensures.each c.loop-i.invariant.4,
    )
