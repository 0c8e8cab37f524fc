use Rattle.std.proofs.Common.{◌≡◌, ℕ, ◌<◌, ◌≤◌, true, length, ◌∙◌, arith, rules}
use Rattle.std.proofs.lemmas.List.Sums.{sum_by-take-le}
use Rattle.std.proofs.lemmas.Bool.Decides.{nat_tests}
use Rattle.tariff.specs.Calendar.{on_calendar}
use Rattle.settlement.proofs.Adding.{figures_sum, added_more, class_low, one_of_four}
use Rattle.settlement.proofs.totals.methods.add_classes.Goals as goal
use Rattle.settlement.proofs.totals.methods.add_classes.Goals.{in-Some, in_default}

pub bounds-sums-class : goal.bounds-sums-class
bounds-sums-class g c =
    let h = one_of_four _ _ _ (g.met.T.Tariff.lawful c.args.tariff.now) (g.met.T.Tariff.kind c.args.tariff.now) _ _ _ c.in-Some.class c.in-Some.ensures in
    omega arith

pub bounds-sums-class-in-Some : goal.bounds-sums-class-in-Some
bounds-sums-class-in-Some g c =
    let h = one_of_four _ _ _ (g.met.T.Tariff.lawful c.args.tariff.now) (g.met.T.Tariff.kind c.args.tariff.now) _ _ _ c.in-Some.class c.in-Some.ensures in
    omega arith

pub overflow_add-sums : goal.overflow_add-sums
overflow_add-sums g c =
    let h = one_of_four _ _ _ (g.met.T.Tariff.lawful c.args.tariff.now) (g.met.T.Tariff.kind c.args.tariff.now) _ _ _ c.in-Some.class c.in-Some.ensures in
    let wide : g.T.Tariff.CLASSES ≤ length c.loop-half_hour.sums = omega (arith, c.loop-half_hour.invariant.0) in
    let low = class_low g.T.Tariff.CLASSES c.loop-half_hour.sums c.in-Some.class wide h.0 in
    let figures = figures_sum c.args.reading.now.used c.args.reading.now.used_within in
    let part = sum_by-take-le (λ (x : ℕ). x) c.args.reading.now.used c.loop-half_hour.half_hour in
    let so_far = c.loop-half_hour.invariant.2 in
    let room = c.requires.room in
    search rules

pub loop-half_hour-preserved : goal.loop-half_hour-preserved
loop-half_hour-preserved g c =
    let law = g.met.T.Tariff.lawful c.args.tariff.now in
    let kind = g.met.T.Tariff.kind c.args.tariff.now in
    let few : g.T.Tariff.CLASSES ≤ 4 = omega (arith, kind, law.few_classes) in
    let i = c.loop-half_hour.half_hour in
    let within-day : i < length c.args.reading.now.used = omega arith in
    let there : on_calendar c.args.day i ≡ true = grind (arith, nat_tests) in
    let known = law.class_known c.args.day c.args.reading.now.rest i there in
    let one_of : known.0 < g.T.Tariff.CLASSES = omega (arith, kind, known.2) in
    added_more _ g.T.Tariff.CLASSES c.args.reading.now.used c.args.sums.now c.loop-half_hour.sums _ i known.0 within-day few known.1 one_of
    (elim c.match-class.branch [
      | in-Some w ↦ let told = w.in-Some.ensures in let is = known.1 in cc
      | in_default w ↦ absurd (w.in_default.not-Some known.0 (c.class.ensures ∙ known.1))
    ])
    c.loop-half_hour.invariant
