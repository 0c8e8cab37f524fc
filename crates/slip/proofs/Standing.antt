-- A list's map and standing figures, one more at a time.
use Rattle.std.proofs.Common.{◌≡◌, ℕ, Bool, true, false, ◌+◌, ◌*◌, ◌<◌, ◌≤◌, cond, eqb, List, [], ◌∷◌, ◌++◌, length, get_or, take, drop, count_by, not, sym, refl, ap, ◌∙◌, append_assoc, append-nil, arith, length-append, take-append-drop}
use Rattle.std.proofs.lemmas.List.{take_more, drop_more}
use Rattle.std.proofs.lemmas.List.Sums.{sum_by-cons}
use Rattle.std.proofs.lemmas.Bool.{ne_eqb, eq-eqb}
use Rattle.slip.specs.Format.{two_bytes, standing_bytes}

-- a figure's bytes: none where it is 0
abbrev pub own_bytes : ℕ → List ℕ
own_bytes n = cond (eqb n 0) [] (two_bytes n)

pub own_none : (n : ℕ) → n ≡ 0 → own_bytes n ≡ []
own_none n e = ap (λ t. cond t [] (two_bytes n)) (eq-eqb n 0 e)

pub own_some : (n : ℕ) → (n ≡ 0 → ⊥) → own_bytes n ≡ two_bytes n
own_some n ne = ap (λ t. cond t [] (two_bytes n)) (ne_eqb n 0 ne)

standing_append : (xs ys : List ℕ) → standing_bytes (xs ++ ys) ≡ standing_bytes xs ++ standing_bytes ys
standing_append [] ys = refl
standing_append (x ∷ xs) ys = ap (λ l. own_bytes x ++ l) (standing_append xs ys) ∙ sym (append_assoc (own_bytes x) (standing_bytes xs) (standing_bytes ys))

pub standing_more : (ns : List ℕ) (i : ℕ) → i < length ns → standing_bytes (take (i + 1) ns) ≡ standing_bytes (take i ns) ++ own_bytes (get_or ns i 0)
standing_more ns i h =
    ap standing_bytes (take_more ns i 0 h) ∙ standing_append (take i ns) (get_or ns i 0 ∷ []) ∙ ap (λ l. standing_bytes (take i ns) ++ l) (append-nil (own_bytes (get_or ns i 0)))

-- there is room for the figure that comes next
pub standing_room : (ns : List ℕ) (i : ℕ) → i < length ns → length (standing_bytes (take i ns)) + length (own_bytes (get_or ns i 0)) ≤ length (standing_bytes ns)
standing_room ns i h =
    let whole : length (standing_bytes ns) ≡ length (standing_bytes (take i ns)) + length (standing_bytes (drop i ns)) =
    ap (λ l. length (standing_bytes l)) (sym (take-append-drop i ns)) ∙ ap length (standing_append (take i ns) (drop i ns)) ∙ length-append _ _ in
    let next : length (standing_bytes (drop i ns)) ≡ length (own_bytes (get_or ns i 0)) + length (standing_bytes (drop (i + 1) ns)) =
    ap (λ l. length (standing_bytes l)) (drop_more ns i 0 h) ∙ length-append (own_bytes (get_or ns i 0)) _ in
    omega arith

-- two bytes for each figure that is not 0
own_count : (n : ℕ) (zero? : Bool) → eqb n 0 ≡ zero? → length (own_bytes n) ≡ 2 * cond (not (eqb n 0)) 1 0
own_count n true e = simp e refl
own_count n false e = simp e refl

pub standing_count : (ns : List ℕ) → length (standing_bytes ns) ≡ 2 * count_by (λ n. not (eqb n 0)) ns
standing_count [] = refl
standing_count (n ∷ ns) =
    let own : length (own_bytes n) ≡ 2 * cond (not (eqb n 0)) 1 0 = own_count n (eqb n 0) refl in
    simp (length-append, sum_by-cons) (omega (arith, standing_count ns))
