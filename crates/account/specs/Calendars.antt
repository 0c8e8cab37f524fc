-- Which openings are refused, and what a calendar holds.
use Rattle.std.specs.Prelude.{ℕ, suc, ◌+◌, Bool, cond, ◌&&◌, List, length, Some, None, sum, Option, nat_le}
use Rattle.std.specs.List.{list_all}
use Rattle.tariff.specs.Calendar.{last_day}
use Rattle.settlement.specs.Boxes.{box_lettered}
use Rattle.settlement.specs.declared.deposit_box.DepositBox.{DepositBox}
use Rattle.account.specs.declared.fault.AccountFault.{AccountFault}
use Rattle.account.specs.declared.fault.AccountFault.TheVariants.{UnknownBox, Months, Length, LastDay}

-- months of 1 to 35 days
abbrev pub lengths_right : List ℕ → Bool
lengths_right lengths = list_all (λ n. nat_le 1 n && nat_le n 35) lengths

-- the first ground against a calendar of these month lengths from a first day number on
abbrev pub calendar_ground : ℕ → List ℕ → Option AccountFault
calendar_ground first lengths =
    cond (nat_le 1 (length lengths) && nat_le (length lengths) 12)
    (cond (lengths_right lengths) (cond (nat_le (first + sum lengths) (suc last_day)) None (Some LastDay)) (Some Length))
    (Some Months)

-- the first ground against an opening
abbrev pub boxed_ground : Option DepositBox → ℕ → List ℕ → Option AccountFault
boxed_ground None first lengths = Some UnknownBox
boxed_ground (Some box) first lengths = calendar_ground first lengths

abbrev pub opening_ground : ℕ → ℕ → List ℕ → Option AccountFault
opening_ground letter first lengths = boxed_ground (box_lettered letter) first lengths
