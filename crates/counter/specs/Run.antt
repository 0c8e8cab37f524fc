-- A run: the slips of an input taken one after another, and the lines that it writes.
use Rattle.std.specs.Prelude.{◌≡◌, ℕ, zero, suc, ◌+◌, ◌*◌, ◌<◌, ◌≤◌, min, List, [], ◌∷◌, ◌++◌, map, length, drop, ℤ, Some, None, Ok, Err, Result}
use Rattle.tariff.specs.declared.refusal.Refusal.{Refusal}
use Rattle.account.specs.History.{int_sum, closed_nets}
use Rattle.account.specs.Ledger.{Opening, Ledger}
use Rattle.line.specs.Lines.{line_bytes}
use Rattle.line.specs.declared.fault.LineFault.{LineFault}
use Rattle.line.specs.declared.fault.LineFault.TheVariants.{Buffer}
use Rattle.line.specs.declared.line.Line.{Line}
use Rattle.slip.specs.Format.{Slip}
use Rattle.slip.specs.Reading.{reads_as}
use Rattle.slip.specs.declared.fault.SlipFault.{SlipFault}
use Rattle.slip.specs.declared.fault.SlipFault.TheVariants.{Empty, Letter, Short, Map, Zero, Rest, Months}
use Rattle.counter.specs.Book.{Book, turned, outcome}
use Rattle.counter.specs.Faults.{counter_refusal}
use Rattle.counter.specs.Law.{book_after, outcomes, yen_in, Accounted}
use Rattle.counter.specs.declared.fault.CounterFault.{CounterFault}
use Rattle.counter.specs.declared.fault.CounterFault.TheVariants.{Slip as NotRead}

-- a slip at the front of bytes that was taken, its answer and the bytes behind it
pub record TakenSlip (book : Book) (bs : List ℕ) (next : Book) (answer : Result ℤ CounterFault) (rest : List ℕ) : Type 0 where
  pub slip : Slip
  pub is_read : reads_as bs ≡ Ok (slip, rest)
  pub answers : answer ≡ outcome book slip
  pub turns : next ≡ turned book slip

-- bytes that are not a slip
pub record NoSlip (bs : List ℕ) (fault : CounterFault) : Type 0 where
  pub unread : SlipFault
  pub is_unread : reads_as bs ≡ Err unread
  pub carries : fault ≡ NotRead unread

-- what became of a slip, as its line has it
abbrev pub shown : Result ℤ CounterFault → Result ℤ Refusal
shown (Ok yen) = Ok yen
shown (Err fault) = Err (counter_refusal fault)

-- the letter on the line of bytes that are not a slip: their first byte, or a question mark where that is no letter of a slip
abbrev pub letter_shown : ℕ → SlipFault → ℕ
letter_shown first Empty = first
letter_shown first Letter = 63
letter_shown first (Short bytes) = first
letter_shown first (Map place) = first
letter_shown first (Zero place) = first
letter_shown first (Rest place) = first
letter_shown first (Months place) = first

abbrev pub a_line : ℕ → ℕ → Result ℤ CounterFault → Line
a_line number letter answer = record { number = number; letter = letter; outcome = shown answer }

-- the line of a slip, and the lines of what follows; nothing follows bytes that are not a slip
abbrev pub line_then : (Book → List ℕ → List Line) → ℕ → ℕ → Book → Result (Slip × List ℕ) SlipFault → List Line
line_then following number first book (Ok (slip, rest)) =
    a_line number first (outcome book slip) ∷ following (turned book slip) rest
line_then following number first book (Err fault) = a_line number (letter_shown first fault) (Err (NotRead fault)) ∷ []

-- the lines of the bytes that are left, where so many lines may follow, the next of this number
unfoldable pub lines : ℕ → ℕ → Book → List ℕ → List Line
lines zero number book bs = []
lines (suc left) number book [] = []
lines (suc left) number book (first ∷ bs) =
    line_then (lines left (number + 1)) number first book (reads_as (first ∷ bs))

abbrev pub all_bytes : List Line → List ℕ
all_bytes [] = []
all_bytes (line ∷ lines) = line_bytes line ++ all_bytes lines

-- a run ends with its input, behind the line of bytes that are not a slip, or behind line 999,999
abbrev pub run_lines : Book → List ℕ → List Line
run_lines book input = lines 999999 1 book input

-- a run from an empty book on
abbrev pub run_bytes : List ℕ → List ℕ
run_bytes input = all_bytes (run_lines None input)

-- a run is written at the front of a buffer that holds it, and refused at one that is too short, which stays as it was
abbrev pub Settled : List ℕ → List ℕ → List ℕ → Result ℕ LineFault → Type 0
Settled input before after (Ok n) =
    (length (run_bytes input) ≤ length before) × (n ≡ length (run_bytes input)) × (after ≡ run_bytes input ++ drop n before)
Settled input before after (Err fault) = (length before < length (run_bytes input)) × (fault ≡ Buffer) × (after ≡ before)

-- the most bytes that a run of so many bytes writes: a line takes a byte of the input at least, and has 33 at most
abbrev pub most_bytes : ℕ → ℕ
most_bytes input = 33 * min input 999999

-- the slips that were read
abbrev pub slip_then : (List ℕ → List Slip) → Result (Slip × List ℕ) SlipFault → List Slip
slip_then following (Ok (slip, rest)) = slip ∷ following rest
slip_then following (Err fault) = []

unfoldable pub slips_read : ℕ → List ℕ → List Slip
slips_read zero bs = []
slips_read (suc left) bs = slip_then (slips_read left) (reads_as bs)

abbrev pub taken : List ℕ → List Slip
taken input = slips_read 999999 input

-- the lines have the answers of the slips that were read, in order, and at most one more, the refusal of bytes that are
-- not a slip
abbrev pub RunTold : List ℕ → Type 0
RunTold input =
    (ending : List SlipFault)
    × (length ending ≤ 1)
    × (map (λ line. line.outcome) (run_lines None input) ≡ map shown (outcomes None (taken input) ++ map (λ fault. Err (NotRead fault)) ending))

-- the yen on a line: a refusal has none
abbrev pub yen_on : Line → ℤ
yen_on line = yen_in line.outcome

-- the account that a run leads to: it keeps the law, and the yen on the lines add up to the nets of its closed months
pub record RunAccounted (input : List ℕ) (o : Opening) (l : Ledger) : Type 0 where
  pub accounted : Accounted (taken input) o l
  pub lines_add_up : int_sum (map yen_on (run_lines None input)) ≡ closed_nets o l

abbrev pub RunLaw : List ℕ → Type 0
RunLaw input = (o : Opening) (l : Ledger) → book_after None (taken input) ≡ Some (o, l) → RunAccounted input o l
