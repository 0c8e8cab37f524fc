use Rattle.std.proofs.Common.{◌≡◌, ℕ, zero, suc, ◌+◌, ◌-◌, ◌*◌, ◌<◌, ◌≤◌, Bool, true, false, cond, ◌&&◌, leb, List, [], ◌∷◌, length, get_or, take, drop, Ok, Err, sym, refl, ap, ◌∙◌, arith}
use Rattle.std.proofs.lemmas.List.{take_rest}
use Rattle.std.proofs.lemmas.Bool.{and_from, le-leb}
use Rattle.slip.specs.Format.{Slip, opening}
use Rattle.slip.specs.Reading.{Read, on, bytes, opened}
use Rattle.slip.specs.declared.fault.SlipFault.TheVariants.{Short, Months}
use Rattle.slip.proofs.Parts.{on_faults, on_reads}
use Rattle.slip.proofs.reader.Cursor.opening.Goals as goal

-- an opening of these lengths, by the bytes of its head
abbrev order : List ℕ → List ℕ → Slip
order bs lengths = opening (record { tariff = get_or bs 0 0; capacity = get_or bs 1 0; percent = get_or bs 2 0; letter = get_or bs 3 0; first = get_or bs 4 0 * 256 + get_or bs 5 0; lengths = lengths })

abbrev lengths_left : List ℕ → ℕ → List ℕ → Read Slip
lengths_left bs count rest = on (bytes count 8 rest) (λ lengths place rest. Ok (order bs lengths, place, rest))

head_as : (bs rest : List ℕ) (count : ℕ) (right? : Bool) → (leb 1 count && leb count 12) ≡ right? → right? ≡ true → on (cond right? (Ok (count, 8, rest)) (Err (Months 7))) (λ count place rest. on (bytes count place rest) (λ lengths place rest. Ok (order bs lengths, place, rest))) ≡ lengths_left bs count rest
head_as bs rest count true e r = refl
head_as bs rest count false e r = absurd (let z : ◌≡◌ {A = ℕ} 0 1 = cc in omega arith)

head : (bs : List ℕ) → 7 ≤ length bs → 1 ≤ get_or bs 6 0 → get_or bs 6 0 ≤ 12 → opened bs ≡ lengths_left bs (get_or bs 6 0) (drop 7 bs)
head [] enough some few = absurd (omega arith)
head (a ∷ []) enough some few = absurd (omega arith)
head (a ∷ (b ∷ [])) enough some few = absurd (omega arith)
head (a ∷ (b ∷ (c ∷ []))) enough some few = absurd (omega arith)
head (a ∷ (b ∷ (c ∷ (d ∷ [])))) enough some few = absurd (omega arith)
head (a ∷ (b ∷ (c ∷ (d ∷ (e ∷ []))))) enough some few = absurd (omega arith)
head (a ∷ (b ∷ (c ∷ (d ∷ (e ∷ (f ∷ [])))))) enough some few = absurd (omega arith)
head (a ∷ (b ∷ (c ∷ (d ∷ (e ∷ (f ∷ (n ∷ rest))))))) enough some few =
    head_as (a ∷ (b ∷ (c ∷ (d ∷ (e ∷ (f ∷ (n ∷ rest))))))) rest n _ refl (and_from _ _ (le-leb 1 n some) (le-leb n 12 few))

-- bytes that end before enough of them are read
bytes_short : (count place : ℕ) (bs : List ℕ) → length bs < count → bytes count place bs ≡ Err (Short (place + length bs))
bytes_short zero place bs few = absurd (omega arith)
bytes_short (suc count) place [] few = ap (λ n. Err (Short n)) (omega arith)
bytes_short (suc count) place (b ∷ bs) few =
    ap (λ r. on r (λ more place bs. Ok (b ∷ more, place, bs))) (bytes_short count (place + 1) bs (omega arith)) ∙ ap (λ n. Err (Short n)) (omega arith)

bytes_enough : (count place : ℕ) (bs : List ℕ) → count ≤ length bs → bytes count place bs ≡ Ok (take count bs, place + count, drop count bs)
bytes_enough zero place bs enough = ap (λ n. Ok ([], n, bs)) (omega arith)
bytes_enough (suc count) place [] enough = absurd (omega arith)
bytes_enough (suc count) place (b ∷ bs) enough =
    ap (λ r. on r (λ more place bs. Ok (b ∷ more, place, bs))) (bytes_enough count (place + 1) bs (omega arith)) ∙ ap (λ n. Ok (b ∷ take count bs, n, drop count bs)) (omega arith)

pub returns-then-rest-count : goal.returns-then-rest-count
returns-then-rest-count c =
    let bs = c.args.self.now.rest.now in
    let whole : take (length bs - 7) (drop 7 bs) ≡ drop 7 bs = take_rest bs 7 in
    let few : length (drop 7 bs) < get_or bs 6 0 = omega (arith, ap length whole) in
    rw (c.short-then-rest-count.ensures, whole) (sym (head bs c.in-len7-up.len_at_least (omega arith) (omega arith) ∙ on_faults _ _ (bytes_short (get_or bs 6 0) 8 (drop 7 bs) few)))

pub returns : goal.returns
returns c =
    let bs = c.args.self.now.rest.now in
    let whole : take (length bs - 7) (drop 7 bs) ≡ drop 7 bs = take_rest bs 7 in
    let enough : get_or bs 6 0 ≤ length (drop 7 bs) = omega (arith, ap length whole) in
    let front : c.split_at.result.0.now ≡ take (get_or bs 6 0) (drop 7 bs) = c.split_at.ensures.front ∙ (λ i. take (c.from-count.ensures i) (whole i)) in
    let back : c.split_at.result.1.now ≡ drop (get_or bs 6 0) (drop 7 bs) = c.split_at.ensures.back ∙ (λ i. drop (c.from-count.ensures i) (whole i)) in
    rw (c.from_be_bytes.ensures, front, back, c.from.ensures)
    (sym (head bs c.in-len7-up.len_at_least (omega arith) (omega arith) ∙ on_reads _ _ (bytes_enough (get_or bs 6 0) 8 (drop 7 bs) enough) refl))
