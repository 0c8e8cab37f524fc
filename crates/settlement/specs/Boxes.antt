-- Deposit boxes: their letters, limits and fees.
use Rattle.std.specs.Prelude.{◌≡◌, ℕ, ◌/◌, cond, Some, None, Option, Result, MatchResult, ◌==◌}
use Rattle.settlement.specs.declared.deposit_box.DepositBox.{DepositBox}
use Rattle.settlement.specs.declared.deposit_box.DepositBox.TheVariants.{S, M, L, T, R}
use Rattle.settlement.specs.declared.fault.MonthFault.{MonthFault}
use Rattle.settlement.specs.declared.fault.MonthFault.TheVariants.{UnknownBox}

-- the box of a letter, by its code
abbrev pub box_lettered : ℕ → Option DepositBox
box_lettered letter =
    cond (letter == 83) (Some S) (cond (letter == 77) (Some M) (cond (letter == 76) (Some L) (cond (letter == 84) (Some T) (cond (letter == 82) (Some R) None))))

-- the box of a letter, where it has one
abbrev pub BoxLettered : ℕ → Result DepositBox MonthFault → Type 0
BoxLettered letter r =
    MatchResult r
    (λ b. box_lettered letter ≡ Some b)
    (λ f. (f ≡ UnknownBox) × (box_lettered letter ≡ None))

-- how many kWh a box holds
abbrev pub limit : DepositBox → Option ℕ
limit S = Some 50
limit M = Some 150
limit L = None
limit T = Some 300
limit R = Some 100

-- the month's fee in yen, by the month's surplus in kWh: that of T and R is halved in a month without surplus
abbrev pub fee : DepositBox → ℕ → ℕ
fee S surplus = 800
fee M surplus = 2350
fee L surplus = 5000
fee T surplus = cond (surplus == 0) (4980 / 2) 4980
fee R surplus = cond (surplus == 0) (2500 / 2) 2500
