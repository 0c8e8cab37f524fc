-- Worked figures: what the definitions of tariffs and of settling answer on examples.
use Rattle.std.specs.Prelude.{◌≡◌, ℕ, false, List, [], ◌∷◌, ℤ, pos, neg_ℤ, Some, Ok, Option}
use Rattle.std.specs.Option.{option_map}
use Rattle.std.specs.List.{AllByRecursion}
use Rattle.tariff.specs.Discount.{percent_of, discounted, discounted_tables}
use Rattle.tariff.specs.Fuel.{fuel_of}
use Rattle.tariff.specs.Plans.{numbered, numbered_tables}
use Rattle.tariff.specs.Tariffs.{seasonal}
use Rattle.tariff.specs.declared.fuel.Area.TheVariants.{Kansai}
use Rattle.tariff.specs.declared.fuel.FuelPrice.{FuelPrice}
use Rattle.settlement.specs.Boxes.{fee}
use Rattle.settlement.specs.Charges.{credit_sen}
use Rattle.settlement.specs.Settling.{Numbers, Charges, numbers}
use Rattle.settlement.specs.declared.prices.MonthPrices.{MonthPrices}
use Rattle.settlement.specs.Totals.{given_totals}
use Rattle.settlement.specs.Usage.{whole_kwh}
use Rattle.settlement.specs.declared.deposit_box.DepositBox.{DepositBox}
use Rattle.settlement.specs.declared.deposit_box.DepositBox.TheVariants.{S, T}

-- a plan by its three numbers, and a month on it: box, prices, used hundredths of a kWh by class and surplus hundredths
pub record Month : Type 0 where
  pub tariff : ℕ
  pub capacity : ℕ
  pub percent : ℕ
  pub box : DepositBox
  pub prices : MonthPrices
  pub used : List ℕ
  pub surplus : ℕ

abbrev pub settled : Month → Option Numbers
settled m =
    option_map
    (numbers (discounted m.percent (numbered m.tariff m.capacity)) (discounted_tables m.percent (numbered_tables m.tariff)) m.box m.prices)
    (given_totals m.used m.surplus)

abbrev pub unrounded : Month → Numbers → ℤ
unrounded m n =
    credit_sen n.credit.value m.prices.fuel n.split.deposited m.prices.buy n.split.bought

-- a question to the rules, and last the figure that answers it
pub data Case : Type 0 where
  -- of a month: its kWh by class, the shares of the deposited kWh by class and step, its credit in sen, its charges
  kwh shares : Month → List ℕ → Case
  credit : Month → ℤ → Case
  charges : Month → Charges → Case
  -- a percent of a price
  part : ℕ → ℕ → ℕ → Case
  -- a box's fee by the month's surplus in hundredths
  box_fee : DepositBox → ℕ → ℕ → Case
  -- the Seasonal class of a day number and half-hour without rest mark
  class_at : ℕ → ℕ → ℕ → Case
  -- average and fuel price of an area number and three inputs
  fuel_price : ℕ → ℕ → ℕ → ℕ → FuelPrice → Case

abbrev pub Holds : Case → Type 0
Holds (kwh m figure) = option_map (λ n. n.split.kwh) (settled m) ≡ Some figure
Holds (shares m figure) = option_map (λ n. n.credit.shares) (settled m) ≡ Some figure
Holds (credit m figure) = option_map (unrounded m) (settled m) ≡ Some figure
Holds (charges m figure) = option_map (λ n. n.charges) (settled m) ≡ Some figure
Holds (part percent price figure) = percent_of percent price ≡ figure
Holds (box_fee box surplus figure) = fee box (whole_kwh surplus) ≡ figure
Holds (class_at day half_hour figure) = (seasonal 10).tariff.class day false half_hour ≡ Some figure
Holds (fuel_price area a b c figure) = fuel_of area a b c ≡ Ok figure

abbrev pub no_prices : MonthPrices
no_prices = record { fuel = pos 0; levy = 0; buy = 0 }

-- Standard, 10 kVA, box S: 400 kWh used, 100 kWh surplus
abbrev pub cafe : Month
cafe = record {
  tariff = 1;
  capacity = 10;
  percent = 100;
  box = S;
  prices = record { fuel = pos 0; levy = 345; buy = 800 };
  used = 40000 ∷ [];
  surplus = 10000;
}

-- Night, 6 kVA, box T: 250 kWh used by day and 150 by night, 200 kWh surplus
abbrev pub inn : Month
inn = record {
  tariff = 2;
  capacity = 6;
  percent = 100;
  box = T;
  prices = no_prices;
  used = 25000 ∷ 15000 ∷ [];
  surplus = 20000;
}

-- Night, 6 kVA, box T: 0.90 kWh used by day and 0.70 by night
abbrev pub closed_inn : Month
closed_inn = record { tariff = 2; capacity = 6; percent = 100; box = T; prices = no_prices; used = 90 ∷ 70 ∷ []; surplus = 0 }

-- Standard, 10 kVA, box S: 3 kWh used and 3 kWh surplus, while fuel is cheaper by more than a kWh costs
abbrev pub stall : Month
stall = record {
  tariff = 1;
  capacity = 10;
  percent = 100;
  box = S;
  prices = record { fuel = neg_ℤ (pos 2038); levy = 0; buy = 0 };
  used = 300 ∷ [];
  surplus = 300;
}

abbrev pub figures : List Case
figures =
    -- a whole month: box S keeps 50 kWh, worth 3,057 sen each, and 50 kWh are bought at 800 sen
    charges cafe (record { supply = pos 13065; levy = 1380; fee = 800; credit = pos 1928; net = pos 13317 })
    -- dearest first: the day's last step is credited whole, its first in part, and the night not at all
    ∷ shares inn (40 ∷ 140 ∷ 20 ∷ 0 ∷ [])
    ∷ charges inn (record { supply = pos 10671; levy = 0; fee = 4980; credit = pos 6262; net = pos 9389 })
    -- discounts pile: each rounds half-up
    ∷ part 90 3745 3371
    ∷ part 90 3371 3034
    -- the last class takes what the others' fractions leave of the month's 2 kWh
    ∷ kwh closed_inn (0 ∷ 2 ∷ [])
    -- the fee goes by the surplus in kWh: 0.49 kWh is none, 0.50 kWh is one
    ∷ box_fee T 49 2490
    ∷ box_fee T 50 4980
    -- a negative credit is cut towards zero: −1.50 yen to −1 yen
    ∷ credit stall (neg_ℤ (pos 150))
    ∷ charges stall (record { supply = pos 2858; levy = 0; fee = 800; credit = neg_ℤ (pos 1); net = pos 3659 })
    -- Seasonal, Monday 3 July 2000: the peak lasts from 13:00 to 16:00
    ∷ class_at 184 25 1
    ∷ class_at 184 26 0
    ∷ class_at 184 31 0
    ∷ class_at 184 32 1
    -- Saturday 1 July 2000 is a rest day, and 30 June is not yet summer
    ∷ class_at 182 26 1
    ∷ class_at 181 26 2
    -- Kansai
    ∷ fuel_price 3 60000 80000 20000 (record { area = Kansai; average = 43200; price = pos 266 })
    ∷ []

abbrev pub FiguresHold : Type 0
FiguresHold = AllByRecursion Holds figures
