-- The bits of a map: bytes and bits are each other's inverse, and so are maps and the numbers that stand in them.
use Rattle.std.proofs.Common.{◌≡◌, ℕ, zero, suc, ◌+◌, ◌*◌, ◌/◌, ◌%◌, ◌<◌, Bool, true, false, cond, ◌&&◌, eqb, List, [], ◌∷◌, ◌++◌, map, length, get_or, take, drop, replicate, sym, refl, ap, ◌∙◌, subst, inl, inr, arith, length-append, length-drop, take-append-drop}
use mathlib.Core.List.{nil≢cons, cons≢nil, head-eq_of_cons-eq, tail-eq_of_cons-eq}
use Rattle.std.specs.List.{AllByRecursion}
use Rattle.std.proofs.lemmas.List.{length-map, take-map, drop-map, map-append, take_at, drop_at, length-take-le}
use Rattle.std.proofs.lemmas.Bool.{and_parts, eqb-true, eq-eqb, cases_eq, false≢true, true≢false}
use Rattle.slip.specs.Exact.{One}
use Rattle.slip.specs.Format.{map_byte, map_bytes}
use Rattle.slip.specs.Reading.{bits, all_bits}
use Rattle.slip.proofs.Parts.{stands}

-- a test of every list of so many bits, and of every number below a bound
abbrev every_bits : ℕ → (List Bool → Bool) → Bool
every_bits zero test = test []
every_bits (suc n) test = every_bits n (λ bs. test (true ∷ bs)) && every_bits n (λ bs. test (false ∷ bs))

passes_bits : (n : ℕ) (test : List Bool → Bool) → every_bits n test ≡ true → (bs : List Bool) → length bs ≡ n → test bs ≡ true
passes_bits zero test e [] l = e
passes_bits zero test e (b ∷ bs) l = absurd (omega arith)
passes_bits (suc n) test e [] l = absurd (omega arith)
passes_bits (suc n) test e (true ∷ bs) l = passes_bits n (λ bs. test (true ∷ bs)) (and_parts _ _ e).0 bs (omega arith)
passes_bits (suc n) test e (false ∷ bs) l = passes_bits n (λ bs. test (false ∷ bs)) (and_parts _ _ e).1 bs (omega arith)

abbrev every_below : ℕ → (ℕ → Bool) → Bool
every_below zero test = true
every_below (suc n) test = test n && every_below n test

passes_below : (n : ℕ) (test : ℕ → Bool) → every_below n test ≡ true → (b : ℕ) → b < n → test b ≡ true
passes_below zero test e b lt = absurd (omega arith)
passes_below (suc n) test e b lt = elim (cases_eq b n) [
  | inl same ↦ ap test same ∙ (and_parts _ _ e).0
  | inr other ↦ passes_below n test (and_parts _ _ e).1 b (omega arith)
]

-- a byte of up to eight bits
abbrev byte_of : ℕ → List Bool → ℕ
byte_of bit [] = 0
byte_of bit (b ∷ bs) = cond b bit 0 + byte_of (bit / 2) bs

abbrev same_bits : List Bool → List Bool → Bool
same_bits [] [] = true
same_bits [] (c ∷ cs) = false
same_bits (b ∷ bs) [] = false
same_bits (true ∷ bs) (true ∷ cs) = same_bits bs cs
same_bits (true ∷ bs) (false ∷ cs) = false
same_bits (false ∷ bs) (true ∷ cs) = false
same_bits (false ∷ bs) (false ∷ cs) = same_bits bs cs

same_bits_same : (bs cs : List Bool) → same_bits bs cs ≡ true → bs ≡ cs
same_bits_same [] [] e = refl
same_bits_same [] (c ∷ cs) e = absurd (false≢true e)
same_bits_same (b ∷ bs) [] e = absurd (false≢true e)
same_bits_same (true ∷ bs) (true ∷ cs) e = ap (λ l. true ∷ l) (same_bits_same bs cs e)
same_bits_same (true ∷ bs) (false ∷ cs) e = absurd (false≢true e)
same_bits_same (false ∷ bs) (true ∷ cs) e = absurd (false≢true e)
same_bits_same (false ∷ bs) (false ∷ cs) e = ap (λ l. false ∷ l) (same_bits_same bs cs e)

bits_of_byte : (bs : List Bool) → length bs ≡ 8 → bits (byte_of 128 bs) ≡ bs
bits_of_byte bs eight = same_bits_same _ _ (passes_bits 8 (λ bs. same_bits (bits (byte_of 128 bs)) bs) refl bs eight)

byte_of_bits : (b : ℕ) → One b → byte_of 128 (bits b) ≡ b
byte_of_bits b fits = eqb-true _ _ (passes_below 256 (λ b. eqb (byte_of 128 (bits b)) b) refl b fits)

turned : (zero? : Bool) (bit : ℕ) → cond zero? 0 bit ≡ cond (cond zero? false true) bit 0
turned true bit = refl
turned false bit = refl

map_byte_of : (bit : ℕ) (ns : List ℕ) → map_byte bit ns ≡ byte_of bit (map stands ns)
map_byte_of bit [] = refl
map_byte_of bit (n ∷ ns) =
    let first = turned (eqb n 0) bit in
    let later = map_byte_of (bit / 2) ns in
    omega arith

pub map_byte_bits : (ns : List ℕ) → length ns ≡ 8 → bits (map_byte 128 ns) ≡ map stands ns
map_byte_bits ns eight = ap bits (map_byte_of 128 ns) ∙ bits_of_byte (map stands ns) (length-map _ _ ∙ eight)

pub map_byte_of_bits : (b : ℕ) (ns : List ℕ) → One b → map stands ns ≡ bits b → map_byte 128 ns ≡ b
map_byte_of_bits b ns fits e = map_byte_of 128 ns ∙ ap (byte_of 128) e ∙ byte_of_bits b fits

-- a map of enough bytes has the bits of its numbers
pub map_bits : (count : ℕ) (ns : List ℕ) → length ns ≡ 8 * count → all_bits (map_bytes count ns) ≡ map stands ns
map_bits zero [] whole = refl
map_bits zero (n ∷ ns) whole = absurd (omega arith)
map_bits (suc count) ns whole =
    let first : bits (map_byte 128 (take 8 ns)) ≡ map stands (take 8 ns) = map_byte_bits (take 8 ns) (length-take-le 8 ns (omega arith)) in
    let later : all_bits (map_bytes count (drop 8 ns)) ≡ map stands (drop 8 ns) = map_bits count (drop 8 ns) (simp length-drop (omega arith)) in
    ap (λ l. l ++ all_bits (map_bytes count (drop 8 ns))) first ∙ ap (λ l. map stands (take 8 ns) ++ l) later ∙ sym (map-append stands (take 8 ns) (drop 8 ns)) ∙ ap (map stands) (take-append-drop 8 ns)

-- and bytes whose bits are those of numbers are the map of these
pub map_of_bits : (maps ns : List ℕ) → AllByRecursion One maps → map stands ns ≡ all_bits maps → map_bytes (length maps) ns ≡ maps
map_of_bits [] ns fit e = refl
map_of_bits (m ∷ maps) ns fit e =
    let first : map stands (take 8 ns) ≡ bits m = sym (take-map stands 8 ns) ∙ ap (take 8) e ∙ take_at (bits m) (all_bits maps) 8 refl in
    let later : map stands (drop 8 ns) ≡ all_bits maps = sym (drop-map stands 8 ns) ∙ ap (drop 8) e ∙ drop_at (bits m) (all_bits maps) 8 refl in
    ap (λ b. b ∷ map_bytes (length maps) (drop 8 ns)) (map_byte_of_bits m (take 8 ns) fit.0 first) ∙ ap (λ l. m ∷ l) (map_of_bits maps (drop 8 ns) fit.1 later)

pub bits_count : (maps : List ℕ) → length (all_bits maps) ≡ 8 * length maps
bits_count [] = refl
bits_count (m ∷ maps) = let later = bits_count maps in simp length-append (omega arith)

-- a byte whose low five bits are 0 leaves all but the first three numbers 0
not_standing : (n : ℕ) (zero? : Bool) → eqb n 0 ≡ zero? → cond zero? false true ≡ false → n ≡ 0
not_standing n true z e = eqb-true n 0 z
not_standing n false z e = absurd (true≢false e)

unstood : (count : ℕ) (ns : List ℕ) → map stands ns ≡ replicate count false → ns ≡ replicate count 0
unstood zero [] e = refl
unstood zero (n ∷ ns) e = absurd (cons≢nil e)
unstood (suc count) [] e = absurd (nil≢cons e)
unstood (suc count) (n ∷ ns) e =
    ap (λ m. m ∷ ns) (not_standing n (eqb n 0) refl (head-eq_of_cons-eq e)) ∙ ap (λ l. 0 ∷ l) (unstood count ns (tail-eq_of_cons-eq e))

pub low_bits : (b : ℕ) → One b → b % 32 ≡ 0 → drop 3 (bits b) ≡ replicate 5 false
low_bits b fits e =
    same_bits_same _ _ (subst (λ t. cond t (same_bits (drop 3 (bits b)) (replicate 5 false)) true ≡ true) (eq-eqb _ _ e) (passes_below 256 (λ b. cond (eqb (b % 32) 0) (same_bits (drop 3 (bits b)) (replicate 5 false)) true) refl b fits))

-- the numbers of such a byte: three, and then none
pub three_stand : (b : ℕ) (ns : List ℕ) → One b → b % 32 ≡ 0 → map stands ns ≡ bits b → ns ≡ get_or ns 0 0 ∷ get_or ns 1 0 ∷ get_or ns 2 0 ∷ replicate 5 0
three_stand b [] fits e own = absurd (nil≢cons own)
three_stand b (x ∷ []) fits e own = absurd (nil≢cons (tail-eq_of_cons-eq own))
three_stand b (x ∷ (y ∷ [])) fits e own = absurd (nil≢cons (tail-eq_of_cons-eq (tail-eq_of_cons-eq own)))
three_stand b (x ∷ (y ∷ (z ∷ ns))) fits e own = ap (λ l. x ∷ (y ∷ (z ∷ l))) (unstood 5 ns (ap (drop 3) own ∙ low_bits b fits e))
