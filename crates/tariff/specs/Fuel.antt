-- A month's fuel price, from the average price of fuel.
use Rattle.std.specs.Prelude.{ℕ, ◌+◌, ◌-◌, ◌*◌, Bool, cond, ◌&&◌, List, ℤ, pos, neg_ℤ, Some, None, Ok, Err, codes, Option, Result, ◌==◌, nat_le}
use Rattle.tariff.specs.Rounding.{half_up}
use Rattle.tariff.specs.declared.refusal.Refusal.{Refusal}
use Rattle.tariff.specs.declared.fuel.Area.{Area}
use Rattle.tariff.specs.declared.fuel.Area.TheVariants.{Tokyo, Chubu, Kansai}
use Rattle.tariff.specs.declared.fuel.Constants.{Constants}
use Rattle.tariff.specs.declared.fuel.FuelFault.{FuelFault}
use Rattle.tariff.specs.declared.fuel.FuelFault.TheVariants.{UnknownArea, Input}
use Rattle.tariff.specs.declared.fuel.FuelPrice.{FuelPrice}

-- an area's weights of the three fuels in ten-thousandths, its base price in yen, and its unit
abbrev pub constants : Area → Constants
constants Tokyo = record { alpha = 48; beta = 3827; gamma = 6584; base = 86100; unit = 183 }
constants Chubu = record { alpha = 275; beta = 4792; gamma = 4275; base = 45900; unit = 223 }
constants Kansai = record { alpha = 140; beta = 3483; gamma = 7227; base = 27100; unit = 165 }

-- the weighted average of the three inputs, half-up to 100 yen
abbrev pub average_of : Constants → ℕ → ℕ → ℕ → ℕ
average_of k a b c = 100 * half_up (k.alpha * a + k.beta * b + k.gamma * c) (10000 * 100)

-- what the average lies over or under the base, by the unit, in sen: its size half-up, its sign kept
abbrev pub price_at : ℕ → ℕ → ℕ → ℤ
price_at base unit average =
    cond (nat_le base average) (pos (half_up ((average - base) * unit) 10000)) (neg_ℤ (pos (half_up ((base - average) * unit) 10000)))

-- the areas by number
abbrev pub area_numbered : ℕ → Option Area
area_numbered n = cond (n == 1) (Some Tokyo) (cond (n == 2) (Some Chubu) (cond (n == 3) (Some Kansai) None))

-- inputs are at most 400,000 yen
abbrev pub inputs_low : ℕ → ℕ → ℕ → Bool
inputs_low a b c = nat_le a 400000 && (nat_le b 400000 && nat_le c 400000)

abbrev pub priced : Area → ℕ → ℕ → ℕ → FuelPrice
priced area a b c =
    let average = average_of (constants area) a b c in
    record { area = area; average = average; price = price_at (constants area).base (constants area).unit average }

abbrev pub fuel_in : Option Area → ℕ → ℕ → ℕ → Result FuelPrice FuelFault
fuel_in None a b c = Err UnknownArea
fuel_in (Some area) a b c = cond (inputs_low a b c) (Ok (priced area a b c)) (Err Input)

-- the fuel price of an area number and three inputs, or the first ground against it
abbrev pub fuel_of : ℕ → ℕ → ℕ → ℕ → Result FuelPrice FuelFault
fuel_of number a b c = fuel_in (area_numbered number) a b c

abbrev pub fuel_refusal : FuelFault → Refusal
fuel_refusal UnknownArea = record { number = 30; place = 0 }
fuel_refusal Input = record { number = 31; place = 0 }

-- what a clerk is told of a refusal
abbrev pub fuel_reason : FuelFault → List ℕ
fuel_reason UnknownArea = codes "the area is not 1 (Tokyo), 2 (Chubu) or 3 (Kansai)"
fuel_reason Input = codes "an input is above 400000 yen"

abbrev pub area_name : Area → List ℕ
area_name Tokyo = codes "Tokyo"
area_name Chubu = codes "Chubu"
area_name Kansai = codes "Kansai"
