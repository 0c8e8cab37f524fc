-- Reading and the format are each other's inverse.
use Rattle.std.proofs.Common.{◌≡◌, ℕ, ◌+◌, ◌-◌, ◌*◌, ◌%◌, ◌≤◌, Bool, true, false, cond, ◌&&◌, eqb, ltb, leb, List, [], ◌∷◌, ◌++◌, map, length, get_or, replicate, ℤ, pos, negsuc, Ok, Err, Result, sym, refl, ap, ◌∙◌, subst, append_assoc, arith}
use Rattle.std.specs.List.{All, AllByRecursion}
use Rattle.std.proofs.lemmas.Nat.{div-add-mod'}
use Rattle.std.proofs.lemmas.List.{length-map}
use Rattle.std.proofs.lemmas.List.Elements.{All-from_recursion, recursion_from_All}
use Rattle.std.proofs.lemmas.Bool.{and_from, le-leb, eqb-true, eq-eqb, and_parts, leb-true, ltb-true, ltb-false, lt-ltb, le-ltb, cond-true, cond-false}
use Rattle.settlement.specs.declared.prices.MonthPrices.{MonthPrices}
use Rattle.settlement.specs.Totals.{Figures}
use Rattle.slip.specs.Exact.{One, Two, SignedTwo, FortyEight, OpeningFits, EntryFits, PricesFit, Fits, Exact}
use Rattle.slip.specs.Format.{Slip, Opening, opening, post, correct, strike, close, two_bytes, map_byte, map_bytes, standing_bytes, packed, entry_bytes, opening_bytes, complement, slip_bytes}
use Rattle.slip.specs.Reading.{Read, on, byte, number, bytes, bits, all_bits, standing, figures, rest_mark, entry, signed, closing, prices, months, opened, posted, corrected, read, unplaced, reads_as}
use Rattle.slip.specs.declared.fault.SlipFault.TheVariants.{Rest, Map, Months, Letter}
use Rattle.slip.proofs.MapBits.{map_bits, map_of_bits, bits_count, map_byte_bits, map_byte_of_bits, three_stand}
use Rattle.slip.proofs.Parts.{Said, said_on, said_as, Bytes, stands, byte_said, number_said, bytes_reads, bytes_said, standing_reads, standing_said}

figures_reads : (ns : List ℕ) (place : ℕ) (rest : List ℕ) → length ns ≡ 48 → figures place (packed 6 ns ++ rest) ≡ Ok (ns, place + 6 + length (standing_bytes ns), rest)
figures_reads ns place rest whole =
    ap (figures place) (append_assoc (map_bytes 6 ns) (standing_bytes ns) rest)
    ∙ ap (λ r. on r (λ maps place bs. standing (all_bits maps) place bs)) (bytes_reads (map_bytes 6 ns) place (standing_bytes ns ++ rest))
    ∙ ap (λ bits. standing bits (place + 6) (standing_bytes ns ++ rest)) (map_bits 6 ns whole)
    ∙ standing_reads ns (place + 6) rest

abbrev Packed : List ℕ → List ℕ → List ℕ → Type 0
Packed bs ns rest = (bs ≡ packed 6 ns ++ rest) × FortyEight ns × Bytes rest

figures_said : (place : ℕ) (bs : List ℕ) → Bytes bs → Said (Packed bs) (figures place bs)
figures_said place bs all =
    said_on (Packed bs) (bytes 6 place bs) _ (bytes_said 6 place bs all) (λ maps place more six.
    said_as (Packed bs) (standing (all_bits maps) place more) (standing_said (all_bits maps) place more six.3) (λ ns rest said.
    let own : map_bytes 6 ns ≡ maps = ap (λ n. map_bytes n ns) (sym six.1) ∙ map_of_bits maps ns six.2 said.1 in
    let whole : length ns ≡ 48 = sym (length-map ns stands) ∙ ap length said.1 ∙ bits_count maps ∙ ap (λ n. 8 * n) six.1 in (
      six.0 ∙ ap (λ l. l ++ more) (sym own) ∙ ap (λ l. map_bytes 6 ns ++ l) said.0 ∙ sym (append_assoc (map_bytes 6 ns) (standing_bytes ns) rest),
      (whole, All-from_recursion Two ns said.2),
      said.3,
    )))

rest_mark_reads : (mark : Bool) (place : ℕ) (rest : List ℕ) → rest_mark place (cond mark 1 0 ∷ rest) ≡ Ok (mark, place + 1, rest)
rest_mark_reads true place rest = refl
rest_mark_reads false place rest = refl

abbrev Marked : List ℕ → Bool → List ℕ → Type 0
Marked bs mark rest = (bs ≡ cond mark 1 0 ∷ rest) × Bytes rest

marked_as : (b place behind : ℕ) (bs rest : List ℕ) (zero? one? : Bool) → eqb b 0 ≡ zero? → eqb b 1 ≡ one? → bs ≡ b ∷ rest → Bytes rest
    → Said (Marked bs) (cond zero? (Ok (false, behind, rest)) (cond one? (Ok (true, behind, rest)) (Err (Rest place))))
marked_as b place behind bs rest true one? z o e all = (e ∙ ap (λ n. n ∷ rest) (eqb-true b 0 z), all)
marked_as b place behind bs rest false true z o e all = (e ∙ ap (λ n. n ∷ rest) (eqb-true b 1 o), all)
marked_as b place behind bs rest false false z o e all = tt

rest_mark_said : (place : ℕ) (bs : List ℕ) → Bytes bs → Said (Marked bs) (rest_mark place bs)
rest_mark_said place bs all =
    said_on (Marked bs) (byte place bs) _ (byte_said place bs all) (λ b behind rest said. marked_as b place behind bs rest (eqb b 0) (eqb b 1) refl refl said.0 said.2)

abbrev ReadsAs : Read Slip → Slip → List ℕ → Type 0
ReadsAs r s rest = (place : ℕ) × (r ≡ Ok (s, place, rest))

-- postings and corrections

abbrev Made : Type 0
Made = ℕ → Bool → List ℕ → List ℕ → Slip

entry_reads : (made : Made) (day : ℕ) (f : Figures) (rest : List ℕ) → EntryFits day f → ReadsAs (entry made (entry_bytes day f ++ rest)) (made day f.rest f.used f.surplus) rest
entry_reads made day f rest fits =
    let behind = 4 + 6 + length (standing_bytes f.used) in
    let used : figures 4 ((packed 6 f.used ++ packed 6 f.surplus) ++ rest) ≡ Ok (f.used, behind, packed 6 f.surplus ++ rest) =
    ap (figures 4) (append_assoc (packed 6 f.used) (packed 6 f.surplus) rest) ∙ figures_reads f.used 4 (packed 6 f.surplus ++ rest) fits.used.0 in
    let surplus = figures_reads f.surplus behind rest fits.surplus.0 in
    let number_is = div-add-mod' day 256 in
    let mark = rest_mark_reads f.rest 3 ((packed 6 f.used ++ packed 6 f.surplus) ++ rest) in
    (behind + 6 + length (standing_bytes f.surplus), simp (number_is, mark, used, surplus))

abbrev Entered : Made → List ℕ → Slip → List ℕ → Type 0
Entered made bs s rest = (day : ℕ) × (f : Figures) × (s ≡ made day f.rest f.used f.surplus) × (bs ≡ entry_bytes day f ++ rest) × EntryFits day f

entry_said : (made : Made) (bs : List ℕ) → Bytes bs → Said (Entered made bs) (entry made bs)
entry_said made bs all =
    said_on (Entered made bs) (number 1 bs) _ (number_said 1 bs all) (λ day place bs1 d.
    said_on (Entered made bs) (rest_mark place bs1) _ (rest_mark_said place bs1 d.2) (λ mark place bs2 m.
    said_on (Entered made bs) (figures place bs2) _ (figures_said place bs2 m.1) (λ used place bs3 u.
    said_on (Entered made bs) (figures place bs3) _ (figures_said place bs3 u.2) (λ surplus place rest s. (
      day,
      record { rest = mark; used = used; surplus = surplus },
      refl,
      d.0 ∙ ap (λ l. two_bytes day ++ l) (m.0 ∙ ap (λ l. cond mark 1 0 ∷ l) (u.0 ∙ ap (λ l. packed 6 used ++ l) s.0 ∙ sym (append_assoc (packed 6 used) (packed 6 surplus) rest))),
      record { day_fits = d.1; used = u.1; surplus = s.1 },
    )))))

-- closings

signed_of : (z : ℤ) → SignedTwo z → signed (complement z) ≡ z
signed_of (pos n) fits = cond-true _ _ _ (lt-ltb n 32768 fits)
signed_of (negsuc n) fits = cond-false _ _ _ (le-ltb (65535 - n) 32768 (omega arith)) ∙ ap negsuc (omega arith)

complement_of : (n : ℕ) (small? : Bool) → ltb n 32768 ≡ small? → Two n → (complement (cond small? (pos n) (negsuc (65535 - n))) ≡ n) × SignedTwo (cond small? (pos n) (negsuc (65535 - n)))
complement_of n true e fits = (refl, ltb-true n 32768 e)
complement_of n false e fits = (omega arith, omega (arith, ltb-false n 32768 e))

high_bits : (a b c : Bool) → (cond a 0 128 + (cond b 0 64 + (cond c 0 32 + 0))) % 32 ≡ 0
high_bits true true true = refl
high_bits true true false = refl
high_bits true false true = refl
high_bits true false false = refl
high_bits false true true = refl
high_bits false true false = refl
high_bits false false true = refl
high_bits false false false = refl

abbrev three : MonthPrices → List ℕ
three p = complement p.fuel ∷ p.levy ∷ p.buy ∷ []

prices_reads : (p : MonthPrices) (rest : List ℕ) → PricesFit p → ReadsAs (prices (packed 1 (three p) ++ rest)) (close p) rest
prices_reads p rest fits =
    let eight = three p ++ replicate 5 0 in
    let own : bits (map_byte 128 (three p)) ≡ map stands eight = map_byte_bits eight refl in
    let high : eqb (map_byte 128 (three p) % 32) 0 ≡ true = eq-eqb _ _ (high_bits (eqb (complement p.fuel) 0) (eqb p.levy 0) (eqb p.buy 0)) in
    let stand : standing (map stands eight) 2 (standing_bytes (three p) ++ rest) ≡ Ok (eight, 2 + length (standing_bytes (three p)), rest) = standing_reads eight 2 rest in
    let place = 2 + length (standing_bytes (three p)) in (
      place,
      ap (λ t. cond t (on (standing (bits (map_byte 128 (three p))) 2 (standing_bytes (three p) ++ rest)) (λ ns place bs. Ok (closing ns, place, bs))) (Err (Map 1))) high
          ∙ ap (λ bits. on (standing bits 2 (standing_bytes (three p) ++ rest)) (λ ns place bs. Ok (closing ns, place, bs))) own
          ∙ ap (λ r. on r (λ ns place bs. Ok (closing ns, place, bs))) stand
          ∙ ap (λ fuel. Ok (close (record { fuel = fuel; levy = p.levy; buy = p.buy }), place, rest)) (signed_of p.fuel fits.fuel),
    )

abbrev Closed : List ℕ → Slip → List ℕ → Type 0
Closed bs s rest = (p : MonthPrices) × (s ≡ close p) × (bs ≡ packed 1 (three p) ++ rest) × PricesFit p

closed_as : (b : ℕ) (bs more : List ℕ) (meant? : Bool) → eqb (b % 32) 0 ≡ meant? → One b → bs ≡ b ∷ more → Bytes more → Said (Closed bs) (cond meant? (on (standing (bits b) 2 more) (λ ns place bs. Ok (closing ns, place, bs))) (Err (Map 1)))
closed_as b bs more false meant fits e all = tt
closed_as b bs more true meant fits e all =
    said_on (Closed bs) (standing (bits b) 2 more) _ (standing_said (bits b) 2 more all) (λ ns place rest said.
    let low : b % 32 ≡ 0 = eqb-true _ _ meant in
    let x = get_or ns 0 0 in
    let whole : ns ≡ x ∷ get_or ns 1 0 ∷ get_or ns 2 0 ∷ replicate 5 0 = three_stand b ns fits low said.1 in
    let fit : AllByRecursion Two (x ∷ get_or ns 1 0 ∷ get_or ns 2 0 ∷ replicate 5 0) = subst (AllByRecursion Two) whole said.2 in
    let fuel = complement_of x (ltb x 32768) refl fit.0 in
    let own : map_byte 128 ns ≡ b = map_byte_of_bits b ns fits said.1 in (
      record { fuel = signed x; levy = get_or ns 1 0; buy = get_or ns 2 0 },
      refl,
      e ∙ ap (λ l. b ∷ l) said.0 ∙ ap (λ m. m ∷ (standing_bytes ns ++ rest)) (sym own) ∙ ap (λ l. map_byte 128 l ∷ (standing_bytes l ++ rest)) whole
          ∙ ap (λ f. packed 1 (f ∷ get_or ns 1 0 ∷ get_or ns 2 0 ∷ []) ++ rest) (sym fuel.0),
      record { fuel = fuel.1; levy = fit.1.0; buy = fit.1.1.0 },
    ))

prices_said : (bs : List ℕ) → Bytes bs → Said (Closed bs) (prices bs)
prices_said [] all = tt
prices_said (b ∷ bs) all = closed_as b (b ∷ bs) bs (eqb (b % 32) 0) refl all.0 refl all.1

-- openings

abbrev Counted : List ℕ → ℕ → List ℕ → Type 0
Counted bs n rest = (bs ≡ n ∷ rest) × (1 ≤ n) × (n ≤ 12) × Bytes rest

counted_as : (n place behind : ℕ) (bs rest : List ℕ) (right? : Bool) → (leb 1 n && leb n 12) ≡ right? → bs ≡ n ∷ rest → Bytes rest → Said (Counted bs) (cond right? (Ok (n, behind, rest)) (Err (Months place)))
counted_as n place behind bs rest false right e all = tt
counted_as n place behind bs rest true right e all = let both = and_parts _ _ right in (e, leb-true 1 n both.0, leb-true n 12 both.1, all)

months_said : (place : ℕ) (bs : List ℕ) → Bytes bs → Said (Counted bs) (months place bs)
months_said place [] all = tt
months_said place (n ∷ bs) all = counted_as n place (place + 1) (n ∷ bs) bs _ refl refl all.1

opened_reads : (o : Opening) (rest : List ℕ) → OpeningFits o → ReadsAs (opened (opening_bytes o ++ rest)) (opening o) rest
opened_reads o rest fits =
    let first = div-add-mod' o.first 256 in
    let count : (leb 1 (length o.lengths) && leb (length o.lengths) 12) ≡ true = and_from _ _ (le-leb 1 _ fits.some_month) (le-leb _ 12 fits.few_months) in
    let lengths = bytes_reads o.lengths 8 rest in
    (8 + length o.lengths, simp (first, count, lengths))

abbrev Opened : List ℕ → Slip → List ℕ → Type 0
Opened bs s rest = (o : Opening) × (s ≡ opening o) × (bs ≡ opening_bytes o ++ rest) × OpeningFits o

opened_said : (bs : List ℕ) → Bytes bs → Said (Opened bs) (opened bs)
opened_said bs all =
    said_on (Opened bs) (byte 1 bs) _ (byte_said 1 bs all) (λ tariff place bs1 t.
    said_on (Opened bs) (byte place bs1) _ (byte_said place bs1 t.2) (λ capacity place bs2 c.
    said_on (Opened bs) (byte place bs2) _ (byte_said place bs2 c.2) (λ percent place bs3 p.
    said_on (Opened bs) (byte place bs3) _ (byte_said place bs3 p.2) (λ letter place bs4 l.
    said_on (Opened bs) (number place bs4) _ (number_said place bs4 l.2) (λ first place bs5 f.
    said_on (Opened bs) (months place bs5) _ (months_said place bs5 f.2) (λ count place bs6 m.
    said_on (Opened bs) (bytes count place bs6) _ (bytes_said count place bs6 m.3) (λ lengths place rest n. (
      record { tariff = tariff; capacity = capacity; percent = percent; letter = letter; first = first; lengths = lengths },
      refl,
      t.0 ∙ ap (λ l. tariff ∷ l) (c.0 ∙ ap (λ l. capacity ∷ l) (p.0 ∙ ap (λ l. percent ∷ l) (l.0 ∙ ap (λ l. letter ∷ l) (f.0 ∙ ap (λ l. two_bytes first ++ l) (m.0 ∙ ap (λ l. count ∷ l) n.0 ∙ ap (λ c. c ∷ (lengths ++ rest)) (sym n.1)))))),
      record { tariff = t.1; capacity = c.1; percent = p.1; letter = l.1; first = f.1; some_month = omega (arith, m.1, n.1); few_months = omega (arith, m.2, n.1); lengths = All-from_recursion One lengths n.2 },
    ))))))))

-- slips

slip_reads : (s : Slip) (rest : List ℕ) → Fits s → ReadsAs (read (slip_bytes s ++ rest)) s rest
slip_reads (opening o) rest fits = opened_reads o rest fits
slip_reads (post day f) rest fits = entry_reads posted day f rest fits
slip_reads (correct day f) rest fits = entry_reads corrected day f rest fits
slip_reads (strike day) rest fits = (3, ap (λ n. Ok (strike n, 3, rest)) (div-add-mod' day 256))
slip_reads (close p) rest fits = prices_reads p rest fits

abbrev Slipped : List ℕ → Slip → List ℕ → Type 0
Slipped bs s rest = (bs ≡ slip_bytes s ++ rest) × Fits s

said_slip : (letter code : ℕ) (bs tail : List ℕ) (s : Slip) (rest : List ℕ) → eqb letter code ≡ true → bs ≡ tail ++ rest → slip_bytes s ≡ code ∷ tail → letter ∷ bs ≡ slip_bytes s ++ rest
said_slip letter code bs tail s rest e behind own =
    ap (λ l. l ∷ bs) (eqb-true letter code e) ∙ ap (λ l. code ∷ l) behind ∙ ap (λ l. l ++ rest) (sym own)

lettered_as : (letter : ℕ) (bs : List ℕ) (o? p? c? s? m? : Bool) → eqb letter 79 ≡ o? → eqb letter 80 ≡ p? → eqb letter 67 ≡ c? → eqb letter 83 ≡ s? → eqb letter 77 ≡ m? → Bytes bs
    → Said (Slipped (letter ∷ bs)) (cond o? (opened bs) (cond p? (entry posted bs) (cond c? (entry corrected bs) (cond s? (on (number 1 bs) (λ day place bs. Ok (strike day, place, bs))) (cond m? (prices bs) (Err Letter))))))
lettered_as letter bs true p? c? s? m? o p c s m all =
    said_as (Slipped (letter ∷ bs)) (opened bs) (opened_said bs all) (λ slip rest said.
    subst (λ s. Slipped (letter ∷ bs) s rest) (sym said.1) (said_slip letter 79 bs (opening_bytes said.0) (opening said.0) rest o said.2 refl, said.3))
lettered_as letter bs false true c? s? m? o p c s m all =
    said_as (Slipped (letter ∷ bs)) (entry posted bs) (entry_said posted bs all) (λ slip rest said.
    subst (λ s. Slipped (letter ∷ bs) s rest) (sym said.2) (said_slip letter 80 bs (entry_bytes said.0 said.1) (post said.0 said.1) rest p said.3 refl, said.4))
lettered_as letter bs false false true s? m? o p c s m all =
    said_as (Slipped (letter ∷ bs)) (entry corrected bs) (entry_said corrected bs all) (λ slip rest said.
    subst (λ s. Slipped (letter ∷ bs) s rest) (sym said.2) (said_slip letter 67 bs (entry_bytes said.0 said.1) (correct said.0 said.1) rest c said.3 refl, said.4))
lettered_as letter bs false false false true m? o p c s m all =
    said_on (Slipped (letter ∷ bs)) (number 1 bs) _ (number_said 1 bs all) (λ day place rest said. (said_slip letter 83 bs (two_bytes day) (strike day) rest s said.0 refl, said.1))
lettered_as letter bs false false false false true o p c s m all =
    said_as (Slipped (letter ∷ bs)) (prices bs) (prices_said bs all) (λ slip rest said.
    subst (λ s. Slipped (letter ∷ bs) s rest) (sym said.1) (said_slip letter 77 bs (packed 1 (three said.0)) (close said.0) rest m said.2 refl, said.3))
lettered_as letter bs false false false false false o p c s m all = tt

slip_said : (bs : List ℕ) → Bytes bs → Said (Slipped bs) (read bs)
slip_said [] all = tt
slip_said (letter ∷ bs) all = lettered_as letter bs _ _ _ _ _ refl refl refl refl refl all.1

abbrev the_ok : {A E : Type 0} → A → Result A E → A
the_ok other (Ok a) = a
the_ok other (Err e) = other

said_is : (P : Slip → List ℕ → Type 0) (r : Read Slip) (s : Slip) (rest : List ℕ) → Said P r → unplaced r ≡ Ok (s, rest) → P s rest
said_is P (Ok (a, place, more)) s rest said e = subst (λ x. P x.0 x.1) (ap (the_ok (s, rest)) e) said
said_is P (Err fault) s rest said e = absurd (let z : ◌≡◌ {A = ℕ} 0 1 = cc in omega arith)

pub exact : (bs : List ℕ) → All One bs → Exact bs
exact bs all = record {
  reads = λ s rest fits e. ap reads_as e ∙ ap unplaced (slip_reads s rest fits).1;
  is_read = λ s rest e. said_is (Slipped bs) (read bs) s rest (slip_said bs (recursion_from_All One bs all)) e;
}
