-- A month's totals in hundredths of a kWh: used energy in all and by class, and surplus.
use Rattle.std.specs.Prelude.{ℕ, suc, ◌+◌, Bool, false, cond, ◌&&◌, List, [], ◌∷◌, map, length, take, Some, None, sum_by, sum, Option, ◌==◌, nat_le, slice_index}
use Rattle.std.specs.List.{range_with_len}
use Rattle.std.specs.Option.{option_map}
use Rattle.tariff.specs.Calendar.{last_day}
use Rattle.tariff.specs.Meaning.{TariffMeaning}
use Rattle.settlement.specs.declared.reading.Reading.{Reading}
use Rattle.settlement.specs.declared.totals.Totals.{Totals}

-- what a day's reading says: the rest mark, and the energy used and the surplus of each half-hour
pub record Figures : Type 0 where
  pub rest : Bool
  pub used : List ℕ
  pub surplus : List ℕ

pub record MonthTotals : Type 0 where
  pub used : ℕ
  pub by_class : List ℕ
  pub surplus : ℕ

abbrev pub of_class : Option ℕ → ℕ → Bool
of_class None class = false
of_class (Some answered) class = answered == class

-- the sum of a day's figures in half-hours of a class, from a half-hour on
abbrev pub in_class : (ℕ → Option ℕ) → ℕ → ℕ → List ℕ → ℕ
in_class class_of class half_hour [] = 0
in_class class_of class half_hour (x ∷ xs) = cond (of_class (class_of half_hour) class) x 0 + in_class class_of class (suc half_hour) xs

-- the energy used in a class on a day, given by its number and reading
abbrev pub day_in_class : TariffMeaning → ℕ → ℕ × Figures → ℕ
day_in_class m class d = in_class (m.class d.0 d.1.rest) class 0 d.1.used

abbrev pub totals_of : TariffMeaning → List (ℕ × Figures) → MonthTotals
totals_of m days = record {
  used = sum_by (λ d. sum d.1.used) days;
  by_class = map (λ class. sum_by (day_in_class m class) days) (range_with_len 0 m.classes);
  surplus = sum_by (λ d. sum d.1.surplus) days;
}

-- the totals with one day more
abbrev pub plus_day : TariffMeaning → MonthTotals → ℕ × Figures → MonthTotals
plus_day m t d = record {
  used = t.used + sum d.1.used;
  by_class = map (λ class. slice_index t.by_class class + day_in_class m class d) (range_with_len 0 m.classes);
  surplus = t.surplus + sum d.1.surplus;
}

-- readings of days that follow one another, numbered from the first day on
abbrev pub numbered : ℕ → List Figures → List (ℕ × Figures)
numbered first [] = []
numbered first (reading ∷ readings) = (first, reading) ∷ numbered (suc first) readings

-- the readings of days of which none is missing
abbrev pub with_first : Figures → Option (List Figures) → Option (List Figures)
with_first reading others = option_map (λ readings. reading ∷ readings) others

abbrev pub all_read : List (Option Figures) → Option (List Figures)
all_read [] = Some []
all_read (None ∷ days) = None
all_read (Some reading ∷ days) = with_first reading (all_read days)

-- at most 35 days, all on the calendar
abbrev pub is_month : ℕ → ℕ → Bool
is_month first length = nat_le length 35 && nat_le (first + length) (suc last_day)

-- the totals of a month of days from a day number on, where it is one and none of its days is missing
abbrev pub gathered : TariffMeaning → ℕ → List (Option Figures) → Option MonthTotals
gathered m first days = cond (is_month first (length days)) (option_map (λ readings. totals_of m (numbered first readings)) (all_read days)) None

-- totals that are given, by class: of 1 to 4 classes, and within the bounds of a month of 35 days
abbrev pub given_totals : List ℕ → ℕ → Option MonthTotals
given_totals used surplus =
    cond (nat_le 1 (length used) && (nat_le (length used) 4 && (nat_le (sum used) 4200000 && nat_le surplus 4200000)))
    (Some (record { used = sum used; by_class = used; surplus = surplus }))
    None

-- what the code's readings and totals hold
abbrev pub figures_of : Reading → Figures
figures_of r = record { rest = r.rest; used = r.used; surplus = r.surplus }

abbrev pub all_figures : List (Option Reading) → List (Option Figures)
all_figures days = map (option_map figures_of) days

abbrev pub month_of : Totals → MonthTotals
month_of t = record { used = t.used; by_class = take t.classes t.by_class; surplus = t.surplus }
