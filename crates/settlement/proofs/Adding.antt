-- Sums of figures, in all and by class.
use Rattle.std.proofs.Common.{◌≡◌, ℕ, suc, ◌+◌, ◌*◌, ◌<◌, ◌≤◌, Bool, true, cond, List, [], ◌∷◌, ◌++◌, map, length, get_or, take, set, replicate, Some, sum_by, sum, Option, sym, refl, ap, ◌∙◌, subst, inl, inr, add-zero, arith, length-set, length-take, get_or-set_other, get_or-take, get_or-set_same}
use Rattle.std.proofs.lemmas.List.FromFn.{fill_by_all, get_or-map-range_with_len, length-map-range_with_len}
use Rattle.std.proofs.lemmas.List.{take-replicate, get_or-replicate, take_more}
use Rattle.std.proofs.lemmas.List.Folds.{sum_by-replicate}
use Rattle.std.proofs.Math.Seq.{take-set-lt}
use Rattle.std.proofs.lemmas.List.Sums.{sum_by-take-le, sum_by-cons, sum_by_more, sum_by_push, sum_by-set, get_or-le-sum_by}
use Rattle.std.proofs.lemmas.Bool.Decides.{nat_tests}
use Rattle.std.proofs.lemmas.Bool.{cases_eq, eq-eqb, ne_eqb}
use Rattle.std.specs.List.{range_with_len}
use Rattle.settlement.specs.Limits.{figures_within}
use Rattle.tariff.specs.Meaning.{TariffMeaning, LawfulTariff}
use Rattle.tariff.specs.Steps.{Step}
use Rattle.tariff.specs.Lawful.{class_within}
use Rattle.settlement.specs.Totals.{Figures, MonthTotals, of_class, in_class, day_in_class, totals_of, plus_day, numbered}

pub figures_sum : (xs : List ℕ) → figures_within xs ≡ true → sum xs ≤ length xs * 2500
figures_sum [] e = omega arith
figures_sum (x ∷ xs) e = let others = figures_sum xs in simp sum_by-cons (grind (arith, nat_tests))

in_class_push : (class_of : ℕ → Option ℕ) (class half_hour : ℕ) (xs : List ℕ) (x : ℕ) → in_class class_of class half_hour (xs ++ x ∷ []) ≡ in_class class_of class half_hour xs + cond (of_class (class_of (half_hour + length xs)) class) x 0
in_class_push class_of class half_hour [] x = let at = ap (λ h. cond (of_class (class_of h) class) x 0) (add-zero half_hour) in omega arith
in_class_push class_of class half_hour (y ∷ xs) x =
    let at : suc half_hour + length xs ≡ half_hour + suc (length xs) = omega arith in
    let here = ap (λ h. cond (of_class (class_of h) class) x 0) at in
    omega (arith, in_class_push class_of class (suc half_hour) xs x)

-- one half-hour more adds to the sum of its class
in_class_more : (class_of : ℕ → Option ℕ) (class : ℕ) (xs : List ℕ) (i : ℕ) → i < length xs → in_class class_of class 0 (take (i + 1) xs) ≡ in_class class_of class 0 (take i xs) + cond (of_class (class_of i) class) (get_or xs i 0) 0
in_class_more class_of class xs i h =
    let at : 0 + length (take i xs) ≡ i = simp length-take (omega arith) in
    ap (in_class class_of class 0) (take_more xs i 0 h)
    ∙ in_class_push class_of class 0 (take i xs) (get_or xs i 0)
    ∙ ap (λ j. in_class class_of class 0 (take i xs) + cond (of_class (class_of j) class) (get_or xs i 0) 0) at

-- Half-hour i of the figures xs, added to the sum of its class k, one of the n classes.
module _ (class_of : ℕ → Option ℕ) (n : ℕ) (xs start sums : List ℕ) (i k : ℕ) (lt : i < length xs) (wide : n ≤ length sums) (is : class_of i ≡ Some k) (one_of_lem : k < n) where
  each_more : ((class : ℕ) → class < n → get_or sums class 0 ≡ get_or start class 0 + in_class class_of class 0 (take i xs)) → (class : ℕ) → class < n → get_or (set sums k (get_or sums k 0 + get_or xs i 0)) class 0 ≡ get_or start class 0 + in_class class_of class 0 (take (i + 1) xs)
  each_more so_far class h =
      let more = in_class_more class_of class xs i lt in
      let told = ap (λ answer. cond (of_class answer class) (get_or xs i 0) 0) is in
      elim (cases_eq k class) [
        | inl same ↦
            let there : k < length sums = omega arith in
            let test = ap (λ b. cond b (get_or xs i 0) 0) (eq-eqb k class same) in
            let written = get_or-set_same sums k (get_or sums k 0 + get_or xs i 0) 0 there in
            let at = ap (λ c. get_or (set sums k (get_or sums k 0 + get_or xs i 0)) c 0) same in
            let was = ap (λ c. get_or sums c 0) same in
            omega (arith, so_far class h)
        | inr other ↦
            let apart : class ≡ k → ⊥ = λ e. other (sym e) in
            let test = ap (λ b. cond b (get_or xs i 0) 0) (ne_eqb k class other) in
            let kept = get_or-set_other sums k class (get_or sums k 0 + get_or xs i 0) 0 apart in
            omega (arith, so_far class h)
      ]

  all_more : sum (take n sums) ≡ sum (take n start) + sum (take i xs) → sum (take n (set sums k (get_or sums k 0 + get_or xs i 0))) ≡ sum (take n start) + sum (take (i + 1) xs)
  all_more so_far =
      let there : k < length (take n sums) = simp length-take (omega arith) in
      let same : get_or (take n sums) k 0 ≡ get_or sums k 0 = rw get_or-take in
      let moved = ap sum (take-set-lt n sums k (get_or sums k 0 + get_or xs i 0) one_of_lem) in
      let set_sum = sum_by-set (λ x. x) (take n sums) k (get_or sums k 0 + get_or xs i 0) 0 there in
      let more = sum_by_more (λ x. x) xs i 0 lt in
      omega arith

-- the figures up to half-hour i are added to the sums of their classes, n of them
abbrev pub Added : (ℕ → Option ℕ) → ℕ → List ℕ → List ℕ → ℕ → List ℕ → Type 0
Added class_of n xs start i sums =
    (length sums ≡ 4)
    × ((class : ℕ) → class < n → get_or sums class 0 ≡ get_or start class 0 + in_class class_of class 0 (take i xs))
    × (sum (take n sums) ≡ sum (take n start) + sum (take i xs))

pub added_more : (class_of : ℕ → Option ℕ) (n : ℕ) (xs start sums next : List ℕ) (i k : ℕ) → i < length xs → n ≤ 4 → class_of i ≡ Some k → k < n → next ≡ set sums k (get_or sums k 0 + get_or xs i 0) → Added class_of n xs start i sums → Added class_of n xs start (i + 1) next
added_more class_of n xs start sums next i k lt few is one_of_lem e so_far =
    let wide : n ≤ length sums = omega (arith, so_far.0) in
    subst (λ s. Added class_of n xs start (i + 1) s) (sym e) (simp length-set so_far.0, each_more class_of n xs start sums i k lt wide is one_of_lem so_far.1, all_more class_of n xs start sums i k lt wide is one_of_lem so_far.2)

-- the sum of a class is at most the sum of all classes
pub class_low : (n : ℕ) (sums : List ℕ) (k : ℕ) → n ≤ length sums → k < n → get_or sums k 0 ≤ sum (take n sums)
class_low n sums k wide h =
    let there : k < length (take n sums) = simp length-take (omega arith) in
    let same : get_or (take n sums) k 0 ≡ get_or sums k 0 = rw get_or-take in
    omega (arith, get_or-le-sum_by (λ x. x) (take n sums) k 0 there)

-- sums by class after a day, as a list
pub by_class_more : (n k : ℕ) (after before : List ℕ) (day : ℕ → ℕ) → n ≡ k → n ≤ length after → ((class : ℕ) → class < k → get_or after class 0 ≡ get_or before class 0 + day class) → take n after ≡ map (λ class. get_or (take n before) class 0 + day class) (range_with_len 0 k)
by_class_more n k after before day same wide each =
    fill_by_all (λ class. get_or (take n before) class 0 + day class) (take n after) k 0 (simp length-take (omega arith)) (λ class h.
    let within : class < n = omega arith in
    rw (get_or-take, get_or-take) (each class h))

-- Totals are equal where their three parts are.
pub same_month : (a b : MonthTotals) → a.used ≡ b.used → a.by_class ≡ b.by_class → a.surplus ≡ b.surplus → a ≡ b
same_month a b used by_class surplus = λ i. record { used = used i; by_class = by_class i; surplus = surplus i }

pub totals_push : (m : TariffMeaning) (days : List (ℕ × Figures)) (d : ℕ × Figures) → totals_of m (days ++ d ∷ []) ≡ plus_day m (totals_of m days) d
totals_push m days d =
    same_month _ _ (sum_by_push (λ x. sum x.1.used) days d)
    (fill_by_all _ _ m.classes 0 (length-map-range_with_len _ 0 m.classes) (λ k h.
    get_or-map-range_with_len (λ class. sum_by (day_in_class m class) (days ++ d ∷ [])) 0 m.classes k k 0 h (omega arith)
    ∙ sum_by_push (day_in_class m k) days d
    ∙ sym (ap (λ x. x + day_in_class m k d) (get_or-map-range_with_len (λ class. sum_by (day_in_class m class) days) 0 m.classes k k 0 h (omega arith)))))
    (sum_by_push (λ x. sum x.1.surplus) days d)

pub numbered_push : (first : ℕ) (readings : List Figures) (r : Figures) → numbered first (readings ++ r ∷ []) ≡ numbered first readings ++ (first + length readings, r) ∷ []
numbered_push first [] r = let at = add-zero first in ap (λ (n : ℕ). (n, r) ∷ []) (sym at)
numbered_push first (x ∷ readings) r =
    let at : suc first + length readings ≡ first + suc (length readings) = omega arith in
    ap (λ (rest : List (ℕ × Figures)). (first, x) ∷ rest) (numbered_push (suc first) readings r ∙ ap (λ (n : ℕ). numbered (suc first) readings ++ (n, r) ∷ []) at)

-- the class of a half-hour is one of the tariff's, which are at most four
pub one_of_four : (m : TariffMeaning) (tables : List (List Step)) (n : ℕ) → LawfulTariff m tables → m.classes ≡ n → (day : ℕ) (rest : Bool) (half_hour k : ℕ) → Some k ≡ m.class day rest half_hour → (k < n) × (n ≤ 4)
one_of_four m tables n law kind day rest half_hour k is =
    (omega (arith, class_within m tables law day rest half_hour k (sym is)), omega (arith, law.few_classes))

-- before the first day all sums are 0
pub sum_zeros : (n k : ℕ) → sum (take n (replicate k 0)) ≡ 0
sum_zeros n k = omega (arith, sum_by-take-le (λ x. x) (replicate k 0) n, sum_by-replicate (λ (x : ℕ). x) k 0)

pub totals_none : (m : TariffMeaning) (n : ℕ) → m.classes ≡ n → n ≤ 4 → ◌≡◌ {A = MonthTotals} (record { used = 0; by_class = take n (replicate 4 0); surplus = 0 }) (totals_of m [])
totals_none m n kind few =
    same_month _ _ refl (fill_by_all (λ class. 0) (take n (replicate 4 0)) m.classes 0 (simp length-take (omega arith)) (λ k h. rw (take-replicate {X = ℕ} n 4 0 few) (get_or-replicate {A = ℕ} n k 0 0 (omega arith)))) refl
