-- The three tariffs: their classes, prices, basic charges and minimums.
use Rattle.std.specs.Prelude.{ℕ, ◌+◌, ◌-◌, ◌*◌, ◌/◌, Bool, cond, not, ◌&&◌, List, [], ◌∷◌, length, Some, None, nat_le, nat_lt}
use Rattle.tariff.specs.Calendar.{Date, date, on_calendar, summer, rest_day}
use Rattle.tariff.specs.Meaning.{TariffMeaning, Meaning}
use Rattle.tariff.specs.Steps.{Step, price_of}

-- a tariff by the class of each half-hour of a date and by the steps of each class
abbrev pub tariff_of : (Date → Bool → ℕ → ℕ) → List (List Step) → TariffMeaning
tariff_of class tables = record {
  classes = length tables;
  class = λ day rest half_hour. cond (on_calendar day half_hour) (Some (class (date day) rest half_hour)) None;
  price = price_of tables;
}

-- whether a half-hour lies between two hours of the clock
abbrev pub between : ℕ → ℕ → ℕ → Bool
between from to half_hour = nat_le (2 * from) half_hour && nat_lt half_hour (2 * to)

-- the basic charge is halved in a month without any use
abbrev pub halved_unless : Bool → ℕ → ℕ
halved_unless used basic = cond used basic (basic / 2)

-- capacities are 1 to 49
abbrev pub is_capacity : ℕ → Bool
is_capacity n = nat_le 1 n && nat_le n 49

-- Standard: one class

abbrev pub standard_steps : List Step
standard_steps = (Some 120, 1988) ∷ (Some 300, 2646) ∷ (None, 3057) ∷ []

abbrev pub standard_tables : List (List Step)
standard_tables = standard_steps ∷ []

abbrev pub standard_class : Date → Bool → ℕ → ℕ
standard_class date rest half_hour = 0

abbrev pub standard : ℕ → Meaning
standard capacity = record {
  tariff = tariff_of standard_class standard_tables;
  basic = λ used. halved_unless used (28600 * capacity);
  minimum = 0;
}

-- Night: by day from 7:00 to 23:00, and by night

abbrev pub day_steps : List Step
day_steps = (Some 90, 2434) ∷ (Some 230, 3243) ∷ (None, 3745) ∷ []

abbrev pub night_tables : List (List Step)
night_tables = day_steps ∷ ((None, 1248) ∷ []) ∷ []

abbrev pub night_class : Date → Bool → ℕ → ℕ
night_class date rest half_hour = cond (between 7 23 half_hour) 0 1

abbrev pub night : ℕ → Meaning
night capacity = record {
  tariff = tariff_of night_class night_tables;
  basic = λ used. halved_unless used (cond (nat_le capacity 6) 132000 (220000 + 28600 * (capacity - 10)));
  minimum = 33044;
}

-- Seasonal: summer peak, other summer day time, day time of the other season, and the remaining hours

abbrev pub seasonal_tables : List (List Step)
seasonal_tables = ((None, 3853) ∷ []) ∷ ((None, 3011) ∷ []) ∷ ((None, 2736) ∷ []) ∷ ((None, 1553) ∷ []) ∷ []

abbrev pub seasonal_class : Date → Bool → ℕ → ℕ
seasonal_class date rest half_hour =
    cond (summer date && (not (rest_day date rest) && between 13 16 half_hour)) 0
    (cond (between 8 22 half_hour) (cond (summer date) 1 2) 3)

abbrev pub seasonal : ℕ → Meaning
seasonal capacity = record {
  tariff = tariff_of seasonal_class seasonal_tables;
  basic = λ used. halved_unless used (130240 + 41694 * (capacity - 10));
  minimum = 0;
}
