use Rattle.std.proofs.Common.{◌≡◌, ℕ, zero, suc, ◌+◌, ◌-◌, ◌*◌, ◌/◌, ◌%◌, ◌^◌, ◌<◌, false, eqb, List, [], ◌∷◌, ◌++◌, length, get_or, sym, refl, ap, ◌∙◌, arith}
use lib.Bits.{bit_and}
use Rattle.std.proofs.lemmas.Nat.{and_mask, div-add-mod'}
use Rattle.std.proofs.lemmas.List.{get_or_append_left, get_or-append-add}
use Rattle.slip.specs.Reading.{bits, all_bits}
use Rattle.slip.proofs.reader.stands.Goals as goal

bit_at : (b place : ℕ) → place < 8 → get_or (bits b) place false ≡ eqb (b / 2 ^ (7 - place) % 2) 1
bit_at b zero lt = refl
bit_at b (suc zero) lt = refl
bit_at b (suc (suc zero)) lt = refl
bit_at b (suc (suc (suc zero))) lt = refl
bit_at b (suc (suc (suc (suc zero)))) lt = refl
bit_at b (suc (suc (suc (suc (suc zero))))) lt = refl
bit_at b (suc (suc (suc (suc (suc (suc zero)))))) lt = refl
bit_at b (suc (suc (suc (suc (suc (suc (suc zero))))))) lt = refl
bit_at b (suc (suc (suc (suc (suc (suc (suc (suc place)))))))) lt = absurd (omega arith)

all_bits_at : (map : List ℕ) (byte place : ℕ) → byte < length map → place < 8 → get_or (all_bits map) (byte * 8 + place) false ≡ get_or (bits (get_or map byte 0)) place false
all_bits_at [] byte place there lt = absurd (omega arith)
all_bits_at (m ∷ map) zero place there lt =
    let here : 0 * 8 + place ≡ place = omega arith in
    ap (λ n. get_or (bits m ++ all_bits map) n false) here ∙ get_or_append_left (bits m) (all_bits map) false place lt
all_bits_at (m ∷ map) (suc byte) place there lt =
    let here : suc byte * 8 + place ≡ 8 + (byte * 8 + place) = omega arith in
    ap (λ n. get_or (bits m ++ all_bits map) n false) here ∙ get_or-append-add (bits m) (all_bits map) (byte * 8 + place) false ∙ all_bits_at map byte place (omega arith) lt

pub returns : goal.returns
returns c =
    let h = c.args.bit in
    let map = c.args.map.now in
    let byte = get_or map (h / 8) 0 in
    let low : bit_and (byte / 2 ^ (7 - h % 8)) 1 ≡ byte / 2 ^ (7 - h % 8) % 2 = and_mask (byte / 2 ^ (7 - h % 8)) 1 in
    let there : get_or (all_bits map) (h / 8 * 8 + h % 8) false ≡ get_or (bits byte) (h % 8) false = all_bits_at map (h / 8) (h % 8) (omega arith) (omega arith) in
    ap (λ n. eqb n 1) low ∙ sym (bit_at byte (h % 8) (omega arith)) ∙ sym there ∙ ap (λ n. get_or (all_bits map) n false) (div-add-mod' h 8)
