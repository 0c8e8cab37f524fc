-- What the code's slips and calls stand for.
use Rattle.std.specs.Prelude.{ℕ, List}
use Rattle.std.specs.Borrow.{Bor}
use Rattle.settlement.specs.Handed.{lists_of}
use Rattle.slip.specs.Format.{Slip, Opening, opening, post, correct, strike, close}
use Rattle.slip.specs.declared.slip.Opening.{Opening as Handed}
use Rattle.slip.specs.declared.slip.Order.{Order}
use Rattle.slip.specs.declared.slip.Order.TheVariants.{Open, Post, Correct, Strike, Close}

abbrev pub opening_of : Handed → Opening
opening_of o =
    record { tariff = o.tariff; capacity = o.capacity; percent = o.percent; letter = o.letter; first = o.first; lengths = o.lengths.now }

abbrev pub order_of : {F : Type 0} → (F → List ℕ) → Order F → Slip
order_of list (Open o) = opening (opening_of o)
order_of list (Post day figures) = post day (lists_of list figures)
order_of list (Correct day figures) = correct day (lists_of list figures)
order_of list (Strike day) = strike day
order_of list (Close prices) = close prices

-- a slip holds its lists, a call refers to them
abbrev pub slip_of : Order (List ℕ) → Slip
slip_of s = order_of (λ l. l) s

abbrev pub called : Order (Bor (List ℕ)) → Slip
called c = order_of (λ l. l.now) c
