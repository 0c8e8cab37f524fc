-- Slips taken one after another from an empty book, and the law of every such run.
use Rattle.std.specs.Prelude.{◌≡◌, List, [], ◌∷◌, ◌++◌, map, ℤ, pos, Some, None, Ok, Err, Result}
use Rattle.account.specs.History.{Entry, History, Upheld, int_sum, closed_nets}
use Rattle.account.specs.Ledger.{Opening, Ledger, Request}
use Rattle.slip.specs.Format.{Slip}
use Rattle.counter.specs.Book.{Book, Asked, an_account, a_call, asked, turned, outcome}
use Rattle.counter.specs.declared.fault.CounterFault.{CounterFault}

-- the book after slips taken in order
abbrev pub book_after : Book → List Slip → Book
book_after book [] = book
book_after book (slip ∷ slips) = book_after (turned book slip) slips

-- what each of them answers
abbrev pub outcomes : Book → List Slip → List (Result ℤ CounterFault)
outcomes book [] = []
outcomes book (slip ∷ slips) = outcome book slip ∷ outcomes (turned book slip) slips

-- the yen in an answer: a refusal has none
abbrev pub yen_in : {E : Type 0} → Result ℤ E → ℤ
yen_in (Ok yen) = yen
yen_in (Err refused) = pos 0

-- the calls that come to an account: those of the slips behind its opening, refused ones too
abbrev pub call_made : Book → Asked → List Request
call_made None a = []
call_made (Some held) (an_account order) = []
call_made (Some held) (a_call r) = r ∷ []

abbrev pub calls_made : Book → List Slip → List Request
calls_made book [] = []
calls_made book (slip ∷ slips) = call_made book (asked slip) ++ calls_made (turned book slip) slips

abbrev pub called : Entry → Request
called (r, reply) = r

-- an account that slips led to: its history is of the calls that they made, each with its right answer, the account's
-- law holds of it, and the yen answered add up to the nets of its closed months
pub record Accounted (slips : List Slip) (o : Opening) (l : Ledger) : Type 0 where
  pub entries : List Entry
  pub every_call : map called entries ≡ calls_made None slips
  pub history : History o entries l
  pub upheld : Upheld o entries l
  pub yen_add_up : int_sum (map yen_in (outcomes None slips)) ≡ closed_nets o l

-- every account that slips lead to
abbrev pub RunKept : Type 0
RunKept = (slips : List Slip) (o : Opening) (l : Ledger) → book_after None slips ≡ Some (o, l) → Accounted slips o l
