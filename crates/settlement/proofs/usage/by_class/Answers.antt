use Rattle.std.proofs.Common.{◌≡◌, ◌+◌, ◌-◌, ◌≤◌, length, take, set, sum, ◌∙◌, length-set, arith, rules, tests}
use Rattle.std.proofs.lemmas.Iterator.{YieldsList-from_slice}
use Rattle.std.proofs.lemmas.List.{length-map}
use Rattle.std.proofs.lemmas.Iterator.Consumers.{fits_from_yields_list}
use Rattle.settlement.specs.Usage.{kwh_by_class}
use Rattle.settlement.proofs.Kwh.{whole, whole_at, others_low, last_takes_rest, front_stays}
use Rattle.settlement.proofs.usage.by_class.Goals as goal

pub sum-requires-clause-fits : goal.sum-requires-clause-fits
sum-requires-clause-fits c =
    let t = c.args.totals.now in
    let four : length t.by_class ≡ 4 = search rules in
    let found = whole_at _ _ t.by_class _ four c.map-kwh.ensures.items (λ p x r q k. search (rules, tests)) in
    let low = others_low c.args.usage t.classes (t.classes - 1) t.by_class (omega arith) (omega arith) (omega (arith, t.added)) in
    let rest : c.iter.result.rest.now ≡ take (c.from-last.result - 1) c.map-kwh.result = search rules in
    fits_from_yields_list c.iter.result _ (YieldsList-from_slice (take (t.classes - 1) (whole t.by_class)) (rw (rest, found, c.from-last.ensures))) (omega arith)

pub overflow_sub-kwh : goal.overflow_sub-kwh
overflow_sub-kwh c =
    let t = c.args.totals.now in
    let four : length t.by_class ≡ 4 = search rules in
    let found = whole_at _ _ t.by_class _ four c.map-kwh.ensures.items (λ p x r q k. search (rules, tests)) in
    let low = others_low c.args.usage t.classes (t.classes - 1) t.by_class (omega arith) (omega arith) (omega (arith, t.added)) in
    let summed : c.sum.result ≡ sum (take (c.from-last.result - 1) c.map-kwh.result) = search rules in
    rw (summed, found, c.from-last.ensures) low

pub returns : goal.returns
returns c =
    let t = c.args.totals.now in
    let four : length t.by_class ≡ 4 = search rules in
    let found = whole_at _ _ t.by_class _ four c.map-kwh.ensures.items (λ p x r q k. search (rules, tests)) in
    let summed : c.sum.result ≡ sum (take (c.from-last.result - 1) c.map-kwh.result) = search rules in
    let kwh = set (whole t.by_class) (t.classes - 1) (c.args.usage - sum (take (t.classes - 1) (whole t.by_class))) in
    let many : t.classes - 1 + 1 ≤ length kwh = simp (length-set, length-map) (omega (arith, four)) in
    let is : t.classes - 1 + 1 ≡ t.classes = omega arith in
    let rest : take t.classes kwh ≡ kwh_by_class c.args.usage (take t.classes t.by_class) = last_takes_rest c.args.usage t.classes (t.classes - 1) t.by_class (omega arith) (omega arith) in
    rw (summed, found, c.from-last.ensures) (front_stays t.classes (t.classes - 1 + 1) kwh _ is many ∙ rest)
