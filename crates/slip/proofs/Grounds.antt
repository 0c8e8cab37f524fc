-- How long slips are, and the grounds against writing them.
use Rattle.std.proofs.Common.{◌≡◌, ℕ, ◌+◌, ◌<◌, ◌≤◌, Bool, true, false, cond, ◌&&◌, eqb, leb, List, [], ◌∷◌, ◌++◌, length, ℤ, pos, negsuc, Some, None, sym, refl, ap, ◌∙◌, arith, length-append, w16, of_z}
use mir.Val.{bool_byte}
use Rattle.std.proofs.lemmas.Bool.{le-leb, lt-leb, eq-eqb, and_from}
use Rattle.settlement.specs.Totals.{Figures}
use Rattle.settlement.specs.declared.prices.MonthPrices.{MonthPrices}
use Rattle.slip.specs.Format.{Slip, close, slip_bytes, map_byte, map_bytes, standing_bytes, packed, entry_bytes, complement}
use Rattle.slip.specs.Writing.{months_right, figures_right, writing_ground}
use Rattle.slip.specs.declared.fault.WritingFault.TheVariants as writing

complement_is : (z : ℤ) → complement z ≡ of_z w16 z
complement_is (pos n) = refl
complement_is (negsuc n) = omega arith

pub mark_is : (b : Bool) → bool_byte b ≡ cond b 1 0
mark_is true = refl
mark_is false = refl

pub packed_length : (ns : List ℕ) → length (packed 6 ns) ≡ 6 + length (standing_bytes ns)
packed_length ns = length-append (map_bytes 6 ns) (standing_bytes ns) ∙ omega arith

pub entry_length : (letter day : ℕ) (f : Figures) → length (letter ∷ entry_bytes day f) ≡ 16 + length (standing_bytes f.used) + length (standing_bytes f.surplus)
entry_length letter day f =
    let both : length (packed 6 f.used ++ packed 6 f.surplus) ≡ length (packed 6 f.used) + length (packed 6 f.surplus) = length-append (packed 6 f.used) (packed 6 f.surplus) in
    let one : length (packed 6 f.used) ≡ 6 + length (standing_bytes f.used) = packed_length f.used in
    let two : length (packed 6 f.surplus) ≡ 6 + length (standing_bytes f.surplus) = packed_length f.surplus in
    omega arith

pub whole_lists : (used surplus : List ℕ) → length used ≡ 48 → length surplus ≡ 48 → (eqb (length used) 48 && eqb (length surplus) 48) ≡ true
whole_lists used surplus e f = and_from _ _ (eq-eqb (length used) 48 e) (eq-eqb (length surplus) 48 f)

pub right_months : (n : ℕ) → 1 ≤ n → n ≤ 12 → (leb 1 n && leb n 12) ≡ true
right_months n low high = and_from _ _ (le-leb 1 n low) (le-leb n 12 high)

-- by the tests that a slip passes
pub no_ground : (s : Slip) (room : ℕ) → months_right s ≡ true → figures_right s ≡ true → length (slip_bytes s) ≤ room → writing_ground s room ≡ None
no_ground s room m f h = simp (m, f, le-leb (length (slip_bytes s)) room h)

pub buffer_ground : (s : Slip) (room : ℕ) → months_right s ≡ true → figures_right s ≡ true → room < length (slip_bytes s) → writing_ground s room ≡ Some writing.Buffer
buffer_ground s room m f h = simp (m, f, lt-leb (length (slip_bytes s)) room h)

-- a closing's bytes, over its fuel price in two's complement
pub closing_bytes : (p : MonthPrices) (x : ℕ) → x ≡ of_z w16 p.fuel
    → slip_bytes (close p) ≡ 77 ∷ (map_byte 128 (x ∷ p.levy ∷ p.buy ∷ []) ∷ standing_bytes (x ∷ p.levy ∷ p.buy ∷ []))
closing_bytes p x e = ap (λ x. 77 ∷ (map_byte 128 (x ∷ p.levy ∷ p.buy ∷ []) ∷ standing_bytes (x ∷ p.levy ∷ p.buy ∷ []))) (complement_is p.fuel ∙ sym e)
