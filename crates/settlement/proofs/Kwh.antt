-- The kWh of each class: each but the last drops its fraction, and the last takes what remains.
use Rattle.std.proofs.Common.{◌≡◌, ℕ, zero, suc, ◌+◌, ◌-◌, ◌*◌, ◌/◌, ◌≤◌, List, [], ◌∷◌, ◌++◌, map, length, take, set, sum, sym, ap, ◌∙◌, arith, length-take}
use Rattle.std.specs.Array.{IsMapOf}
use Rattle.std.specs.Fn.{Called}
use denote.Param.Members.{Mut}
use Rattle.std.proofs.lemmas.Grind.{same_number_lists}
use Rattle.std.proofs.lemmas.List.{get_or-map, length-map, take-map, take-take, take_at}
use Rattle.std.proofs.lemmas.List.Sums.{sum_by-cons, sum_by-take-le}
use Rattle.std.proofs.Math.Seq.{take-set-lt}
use Rattle.settlement.specs.Usage.{kwh_by_class}

-- the whole kWh of each class
abbrev pub whole : List ℕ → List ℕ
whole xs = map (λ x. x / 100) xs

-- what an array's `map` made, where each call gives the whole kWh
pub whole_at : {F : Type 0} (g : Mut F (ℕ × Unit {0}) ℕ) (f : F) (xs kwh : List ℕ) → length xs ≡ 4 → IsMapOf g f xs kwh 4 → ((p : F) (x r : ℕ) (q : F) → Called g p (x, tt) r q → r ≡ x / 100) → kwh ≡ whole xs
whole_at g f xs kwh four made called =
    same_number_lists kwh (whole xs) (made.long ∙ sym four ∙ sym (length-map xs (λ x. x / 100))) (λ i h.
    let at = made.at i 0 0 (omega (arith, made.long)) in
    called at.0 _ _ at.1 at.2 ∙ sym (get_or-map (λ x. x / 100) xs i 0 0 (omega (arith, made.long))))

whole_low : (xs : List ℕ) → 100 * sum (whole xs) ≤ sum xs
whole_low [] = omega arith
whole_low (x ∷ xs) = simp sum_by-cons (omega (arith, whole_low xs))

rest_last : (left : ℕ) (xs : List ℕ) (last : ℕ) → suc last ≡ length xs → set (whole xs) last (left - sum (take last (whole xs))) ≡ kwh_by_class left xs
rest_last left [] last e = absurd (omega arith)
rest_last left (x ∷ []) zero e = ap (λ n. n ∷ []) (omega arith)
rest_last left (x ∷ []) (suc last) e = absurd (omega arith)
rest_last left (x ∷ (y ∷ rest)) zero e = absurd (omega arith)
rest_last left (x ∷ (y ∷ rest)) (suc last) e =
    let behind : left - sum (x / 100 ∷ take last (whole (y ∷ rest))) ≡ left - x / 100 - sum (take last (whole (y ∷ rest))) = simp sum_by-cons (omega arith) in
    ap (λ n. x / 100 ∷ set (whole (y ∷ rest)) last n) behind ∙ ap (λ xs. x / 100 ∷ xs) (rest_last (left - x / 100) (y ∷ rest) last (omega arith))

-- of the first n classes of xs, `last` is the last one
module _ (left n last : ℕ) (xs : List ℕ) (is : n ≡ last + 1) (wide : n ≤ length xs) where
  -- the others have no more than there is
  pub others_low : sum (take n xs) ≤ 100 * left + 99 → sum (take last (whole xs)) ≤ left
  others_low h =
      let some : sum (take last (whole xs)) ≤ sum (whole (take n xs)) =
      rw (← take-take last n (whole xs) (omega arith), take-map (λ x. x / 100) n xs) (sum_by-take-le (λ x. x) (whole (take n xs)) last) in
      omega (arith, whole_low (take n xs))

  pub last_takes_rest : take n (set (whole xs) last (left - sum (take last (whole xs)))) ≡ kwh_by_class left (take n xs)
  last_takes_rest =
      let many : suc last ≡ length (take n xs) = simp length-take (omega arith) in
      rw (take-set-lt n (whole xs) last _ (omega arith), ← take-take last n (whole xs) (omega arith), take-map (λ x. x / 100) n xs) (rest_last left (take n xs) last many)

-- what is written behind the first n leaves them as they are
pub front_stays : (n m : ℕ) (xs ys : List ℕ) → m ≡ n → m ≤ length xs → take n (take m xs ++ ys) ≡ take n xs
front_stays n m xs ys same many = take_at (take m xs) ys n (simp length-take (omega (arith, same, many))) ∙ ap (λ k. take k xs) same

-- they add up to the usage
pub kwh_sum : (left : ℕ) (xs : List ℕ) → 1 ≤ length xs → sum xs ≤ 100 * left + 99 → sum (kwh_by_class left xs) ≡ left
kwh_sum left [] some h = absurd (omega arith)
kwh_sum left (x ∷ []) some h = simp sum_by-cons (omega arith)
kwh_sum left (x ∷ (y ∷ rest)) some h =
    let parts = sum_by-cons (λ n. n) x (y ∷ rest) in
    let others = kwh_sum (left - x / 100) (y ∷ rest) (omega arith) (omega arith) in
    simp sum_by-cons (omega arith)
