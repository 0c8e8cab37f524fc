-- What a tariff and a supply mean, each as one value, and what every lawful one keeps.
use Rattle.std.specs.Prelude.{◌≡◌, ℕ, ◌<◌, ◌≤◌, Bool, true, false, List, [], length, Some, None, Option, slice_index_or}
use Rattle.std.specs.List.{AllByRecursion}
use Rattle.tariff.specs.Calendar.{on_calendar}
use Rattle.tariff.specs.Steps.{Step, right_table, price_of, FirstAbove}

-- the number of time classes; the class of a day number, rest mark and half-hour; the price of kWh number k of a class
pub record TariffMeaning : Type 0 where
  pub classes : ℕ
  pub class : ℕ → Bool → ℕ → Option ℕ
  pub price : ℕ → ℕ → Option ℕ

-- a tariff with a basic charge, by whether any energy was used, and a minimum, both in sen
pub record Meaning : Type 0 where
  pub tariff : TariffMeaning
  pub basic : Bool → ℕ
  pub minimum : ℕ

-- one of the classes
abbrev pub IsClass : ℕ → Option ℕ → Type 0
IsClass classes answer = (class : ℕ) × (answer ≡ Some class) × (class < classes)

-- What holds of every tariff and its tables of steps, one for each class.
pub record LawfulTariff (m : TariffMeaning) (tables : List (List Step)) : Type 0 where
  pub some_class : 1 ≤ m.classes
  pub few_classes : m.classes ≤ 4
  pub a_table_each : length tables ≡ m.classes
  pub tables_right : AllByRecursion (λ table. right_table table ≡ true) tables
  pub class_known : (day : ℕ) (rest : Bool) (half_hour : ℕ) → on_calendar day half_hour ≡ true → IsClass m.classes (m.class day rest half_hour)
  pub class_none : (day : ℕ) (rest : Bool) (half_hour : ℕ) → on_calendar day half_hour ≡ false → m.class day rest half_hour ≡ None
  pub priced_by_steps : (class k : ℕ) → m.price class k ≡ price_of tables class k

-- What holds of every supply.
pub record Lawful (m : Meaning) (tables : List (List Step)) : Type 0 where
  pub tariff : LawfulTariff m.tariff tables
  pub basic_bound : (used : Bool) → m.basic used ≤ 2000000
  pub minimum_bound : m.minimum ≤ 2000000

-- every kWh of every class has a price: that of the first step whose end is above it
abbrev pub EveryKwhPriced : TariffMeaning → List (List Step) → Type 0
EveryKwhPriced m tables = (class k : ℕ) → class < m.classes → FirstAbove (slice_index_or tables class []) k (m.price class k)
