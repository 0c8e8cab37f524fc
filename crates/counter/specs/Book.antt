-- The book of the counter: what a slip does to it, and what it answers.
use Rattle.std.specs.Prelude.{length, ℤ, pos, Some, None, Ok, Err, Option, Result}
use Rattle.std.specs.Option.{option_map}
use Rattle.tariff.specs.Discount.{discounted, discounted_tables}
use Rattle.tariff.specs.Plans.{plan_ground, numbered, numbered_tables}
use Rattle.tariff.specs.declared.fault.PlanFault.{PlanFault}
use Rattle.settlement.specs.Boxes.{box_lettered}
use Rattle.settlement.specs.declared.deposit_box.DepositBox.{DepositBox}
use Rattle.account.specs.Calendars.{opening_ground}
use Rattle.account.specs.History.{correction}
use Rattle.account.specs.Ledger.{Opening, Ledger, empty, Request, post, correct, strike, draft, close, show, request_ground, done, month_numbers, net_in}
use Rattle.account.specs.declared.fault.AccountFault.{AccountFault}
use Rattle.slip.specs.Format.{Slip, Opening as Order}
use Rattle.slip.specs.Format as slip
use Rattle.counter.specs.declared.fault.CounterFault.{CounterFault}
use Rattle.counter.specs.declared.fault.CounterFault.TheVariants.{NotOpen, AlreadyOpen, Plan, Account}

-- no account, or the one that is open: what it was opened with, and its ledger
abbrev pub Book : Type 0
Book = Option (Opening × Ledger)

-- what a slip asks for: an account as ordered, or a call on the one that is open
pub data Asked : Type 0 where
  an_account : Order → Asked
  a_call : Request → Asked

abbrev pub asked : Slip → Asked
asked (slip.opening order) = an_account order
asked (slip.post day f) = a_call (post day f)
asked (slip.correct day f) = a_call (correct day f)
asked (slip.strike day) = a_call (strike day)
asked (slip.close p) = a_call (close p)

-- an order is refused over its supply first, then by the account
abbrev pub either_ground : Option PlanFault → Option AccountFault → Option CounterFault
either_ground (Some fault) later = Some (Plan fault)
either_ground None later = option_map Account later

abbrev pub order_ground : Order → Option CounterFault
order_ground order =
    either_ground (plan_ground order.tariff order.capacity order.percent) (opening_ground order.letter order.first order.lengths)

-- the first ground against what is asked
abbrev pub ground_against : Book → Asked → Option CounterFault
ground_against None (an_account order) = order_ground order
ground_against None (a_call r) = Some NotOpen
ground_against (Some held) (an_account order) = Some AlreadyOpen
ground_against (Some (o, l)) (a_call r) = option_map Account (request_ground o l r)

abbrev pub counter_ground : Book → Slip → Option CounterFault
counter_ground book slip = ground_against book (asked slip)

-- what an order that is not refused opens an account with
abbrev pub ordered : Order → DepositBox → Opening
ordered order box = record {
  meaning = discounted order.percent (numbered order.tariff order.capacity);
  tables = discounted_tables order.percent (numbered_tables order.tariff);
  box = box;
  first = order.first;
  lengths = order.lengths;
}

-- the book after what is asked, where no ground holds
abbrev pub granted : Book → Asked → Book
granted None (an_account order) = option_map (λ box. (ordered order box, empty)) (box_lettered order.letter)
granted None (a_call r) = None
granted (Some held) (an_account order) = Some held
granted (Some (o, l)) (a_call r) = Some (o, done l r)

abbrev pub unless_refused : Option CounterFault → Book → Book → Book
unless_refused None book next = next
unless_refused (Some fault) book next = book

-- the book after a slip: unchanged where a ground holds
abbrev pub turned : Book → Slip → Book
turned book slip = unless_refused (counter_ground book slip) book (granted book (asked slip))

-- the yen that a call answers: a closing its net, a correction its difference
abbrev pub yen_of : Opening → Ledger → Request → ℤ
yen_of o l (close p) = net_in (month_numbers o l (length l.closed) p)
yen_of o l (correct day f) = correction o l day f
yen_of o l (post day f) = pos 0
yen_of o l (strike day) = pos 0
yen_of o l (draft p) = pos 0
yen_of o l (show month) = pos 0

-- the yen that a slip answers, where no ground holds
abbrev pub yen_asked : Book → Asked → ℤ
yen_asked None a = pos 0
yen_asked (Some held) (an_account order) = pos 0
yen_asked (Some (o, l)) (a_call r) = yen_of o l r

abbrev pub amount : Book → Slip → ℤ
amount book slip = yen_asked book (asked slip)

-- what a slip answers: its first ground, or its yen
abbrev pub answered : Option CounterFault → ℤ → Result ℤ CounterFault
answered None yen = Ok yen
answered (Some fault) yen = Err fault

abbrev pub outcome : Book → Slip → Result ℤ CounterFault
outcome book slip = answered (counter_ground book slip) (amount book slip)
