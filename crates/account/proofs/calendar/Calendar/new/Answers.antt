use Rattle.std.proofs.Common.{◌≡◌, ℕ, ◌+◌, ◌≤◌, ◌++◌, List, drop, length-append, length-drop, length, replicate, sum, sym, ap, ◌∙◌, subst, arith, rules}
use Rattle.std.proofs.lemmas.List.{take_at}
use Rattle.account.specs.Calendars.{lengths_right}
use Rattle.account.proofs.calendar.Calendar.new.Goals as goal

-- a list whose front was written is as long as it was
filled_long : (front all : List ℕ) (n : ℕ) → length front ≡ n → n ≤ length all → length (front ++ drop n all) ≡ length all
filled_long front all n long fits = omega (arith, length-append front (drop n all), length-drop n all)

pub invariant_of-result-clause-right : goal.invariant_of-result-clause-right
invariant_of-result-clause-right c =
    let kept = take_at c.copy_from_slice.new.self _ (length c.args.lengths.now) (search rules) ∙ c.copy_from_slice.ensures.after in
    ap lengths_right kept ∙ sym c.if-not-all_right.ensures

pub invariant_of-result-clause-ends : goal.invariant_of-result-clause-ends
invariant_of-result-clause-ends c =
    let kept = take_at c.copy_from_slice.new.self _ (length c.args.lengths.now) (search rules) ∙ c.copy_from_slice.ensures.after in
    subst (λ total. c.args.first + total ≤ 36525) (sym (ap sum kept)) (omega arith)

pub invariant_of-result-clause-wide : goal.invariant_of-result-clause-wide
invariant_of-result-clause-wide c = filled_long c.copy_from_slice.new.self (replicate 12 0) (length c.args.lengths.now) (search rules) (omega arith)
