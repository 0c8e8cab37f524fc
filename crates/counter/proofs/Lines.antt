-- The lines of a run.
use Rattle.std.proofs.Common.{◌≡◌, ℕ, zero, suc, ◌+◌, ◌≤◌, List, [], ◌∷◌, ◌++◌, map, length, get_or, ℤ, ◌+ℤ◌, None, Ok, Err, Result, sym, refl, ap, ◌∙◌, arith, length-append}
use Rattle.std.proofs.lemmas.Int.{ints}
use Rattle.account.specs.History.{int_sum}
use Rattle.line.specs.declared.line.Line.{Line}
use Rattle.tariff.specs.declared.refusal.Refusal.{Refusal}
use Rattle.slip.specs.Exact.{Exact}
use Rattle.slip.specs.Format.{Slip, opening, post, correct, strike, close, slip_bytes}
use Rattle.slip.specs.Reading.{reads_as}
use Rattle.slip.specs.declared.fault.SlipFault.{SlipFault}
use Rattle.counter.specs.Book.{Book, turned, outcome}
use Rattle.counter.specs.Law.{outcomes, yen_in}
use Rattle.counter.specs.Run.{shown, letter_shown, a_line, line_then, lines, slip_then, slips_read, taken, yen_on, RunTold, RunLaw}
use Rattle.counter.specs.declared.fault.CounterFault.{CounterFault}
use Rattle.counter.specs.declared.fault.CounterFault.TheVariants.{Slip as NotRead}
use Rattle.counter.proofs.Runs.{run_kept}

-- no line may follow, or no bytes are left

pub lines_over : (number : ℕ) (book : Book) (bs : List ℕ) → lines 0 number book bs ≡ []
unfolding lines
lines_over number book bs = refl

pub lines_none : (left number : ℕ) (book : Book) (bs : List ℕ) → length bs ≡ 0 → lines left number book bs ≡ []
unfolding lines
lines_none zero number book bs none = refl
lines_none (suc left) number book [] none = refl
lines_none (suc left) number book (first ∷ bs) none = absurd (omega arith)

-- the line of a slip, and the lines of the rest

reads_line : (left number : ℕ) (book : Book) (bs : List ℕ) (r : Result (Slip × List ℕ) SlipFault) → 1 ≤ length bs → reads_as bs ≡ r
    → lines (suc left) number book bs ≡ line_then (lines left (number + 1)) number (get_or bs 0 0) book r
unfolding lines
reads_line left number book [] r some e = absurd (omega arith)
reads_line left number book (first ∷ bs) r some e = ap (line_then (lines left (number + 1)) number first book) e

module _ (number : ℕ) (book next : Book) (bs rest : List ℕ) (some : 1 ≤ length bs) (what : Result ℤ Refusal) where
  pub slip_line : (slip : Slip) → reads_as bs ≡ Ok (slip, rest) → what ≡ shown (outcome book slip) → next ≡ turned book slip
      → (left : ℕ) → lines (suc left) number book bs ≡ record { number = number; letter = get_or bs 0 0; outcome = what } ∷ lines left (number + 1) next rest
  slip_line slip e what-is next-is left =
      reads_line left number book bs (Ok (slip, rest)) some e
      ∙ sym (λ i. record { number = number; letter = get_or bs 0 0; outcome = what-is i } ∷ lines left (number + 1) (next-is i) rest)

  -- behind bytes that are not a slip there are none
  pub refused_line : (fault : SlipFault) (letter : ℕ) → reads_as bs ≡ Err fault → letter ≡ letter_shown (get_or bs 0 0) fault → what ≡ shown (Err (NotRead fault)) → length rest ≡ 0
      → (left : ℕ) → lines (suc left) number book bs ≡ record { number = number; letter = letter; outcome = what } ∷ lines left (number + 1) next rest
  refused_line fault letter e letter_is what-is none left =
      reads_line left number book bs (Err fault) some e
      ∙ sym (λ i. record { number = number; letter = letter_is i; outcome = what-is i } ∷ lines_none left (number + 1) next rest none i)

-- a slip has bytes
slip_some : (slip : Slip) → 1 ≤ length (slip_bytes slip)
slip_some (opening o) = omega arith
slip_some (post day f) = omega arith
slip_some (correct day f) = omega arith
slip_some (strike day) = omega arith
slip_some (close p) = omega arith

-- what was read leaves fewer bytes
pub read_shorter : (bs : List ℕ) (slip : Slip) (rest : List ℕ) → Exact bs → reads_as bs ≡ Ok (slip, rest) → length rest + 1 ≤ length bs
read_shorter bs slip rest exact e =
    let whole : length bs ≡ length (slip_bytes slip) + length rest = ap length (exact.is_read slip rest e).0 ∙ length-append (slip_bytes slip) rest in
    omega (arith, slip_some slip)

-- the lines have the answers of the slips

abbrev Told : List Line → List (Result ℤ CounterFault) → Type 0
Told ls answers =
    (ending : List SlipFault)
    × (length ending ≤ 1)
    × (map (λ line. line.outcome) ls ≡ map shown (answers ++ map (λ fault. Err (NotRead fault)) ending))

told_then : (following : Book → List ℕ → List Line) (slips : List ℕ → List Slip) (number first : ℕ) (book : Book) (r : Result (Slip × List ℕ) SlipFault)
    → ((book : Book) (rest : List ℕ) → Told (following book rest) (outcomes book (slips rest)))
    → Told (line_then following number first book r) (outcomes book (slip_then slips r))
told_then following slips number first book (Ok (slip, rest)) same =
    let on = same (turned book slip) rest in
    (on.0, on.1, ap (λ l. shown (outcome book slip) ∷ l) on.2)
told_then following slips number first book (Err fault) same = (fault ∷ [], omega arith, refl)

lines_told : (left number : ℕ) (book : Book) (bs : List ℕ) → Told (lines left number book bs) (outcomes book (slips_read left bs))
unfolding lines slips_read
lines_told zero number book bs = ([], omega arith, refl)
lines_told (suc left) number book [] = ([], omega arith, refl)
lines_told (suc left) number book (first ∷ bs) =
    told_then (lines left (number + 1)) (slips_read left) number first book (reads_as (first ∷ bs)) (lines_told left (number + 1))

pub run_told : (input : List ℕ) → RunTold input
run_told input = lines_told 999999 1 None input

-- the yen on the lines are those that the slips answered

shown_yen : (number letter : ℕ) (answer : Result ℤ CounterFault) → yen_on (a_line number letter answer) ≡ yen_in answer
shown_yen number letter (Ok yen) = refl
shown_yen number letter (Err fault) = refl

yen_then : (following : Book → List ℕ → List Line) (slips : List ℕ → List Slip) (number first : ℕ) (book : Book) (r : Result (Slip × List ℕ) SlipFault)
    → ((book : Book) (rest : List ℕ) → int_sum (map yen_on (following book rest)) ≡ int_sum (map yen_in (outcomes book (slips rest))))
    → int_sum (map yen_on (line_then following number first book r)) ≡ int_sum (map yen_in (outcomes book (slip_then slips r)))
yen_then following slips number first book (Ok (slip, rest)) same =
    λ i. shown_yen number first (outcome book slip) i +ℤ same (turned book slip) rest i
yen_then following slips number first book (Err fault) same = omega (arith, ints)

lines_yen : (left number : ℕ) (book : Book) (bs : List ℕ) → int_sum (map yen_on (lines left number book bs)) ≡ int_sum (map yen_in (outcomes book (slips_read left bs)))
unfolding lines slips_read
lines_yen zero number book bs = refl
lines_yen (suc left) number book [] = refl
lines_yen (suc left) number book (first ∷ bs) =
    yen_then (lines left (number + 1)) (slips_read left) number first book (reads_as (first ∷ bs)) (lines_yen left (number + 1))

pub run_law : (input : List ℕ) → RunLaw input
run_law input o l ends =
    let kept = run_kept (taken input) o l ends in
    record { accounted = kept; lines_add_up = lines_yen 999999 1 None input ∙ kept.yen_add_up }
