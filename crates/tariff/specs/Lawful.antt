-- The tariffs of two and of four classes are lawful, and so are the supplies made of them.
use Rattle.std.specs.Prelude.{◌≡◌, ℕ, ◌+◌, ◌-◌, ◌*◌, ◌/◌, ◌<◌, ◌≤◌, Bool, true, false, cond, not, ◌&&◌, List, length, Some, nat_le, refl}
use Rattle.std.proofs.Common.{inl, inr, arith, lit≤}
use Rattle.std.proofs.lemmas.Bool.{cases_Bool, cond-true, cond-false, cond_both}
use Rattle.std.specs.List.{AllByRecursion}
use Rattle.tariff.specs.Calendar.{Date, date, on_calendar, summer, rest_day}
use Rattle.tariff.specs.Meaning.{TariffMeaning, LawfulTariff, Lawful}
use Rattle.tariff.specs.Steps.{Step, right_table}
use Rattle.tariff.specs.Tariffs.{tariff_of, between, halved_unless, night, night_class, night_tables, seasonal, seasonal_class, seasonal_tables, standard, standard_class, standard_tables}

-- a tariff of right tables whose classes are all among them is lawful
pub lawful_of : (class : Date → Bool → ℕ → ℕ) (tables : List (List Step)) → 1 ≤ length tables → length tables ≤ 4 → AllByRecursion (λ table. right_table table ≡ true) tables → ((d : Date) (rest : Bool) (half_hour : ℕ) → class d rest half_hour < length tables) → LawfulTariff (tariff_of class tables) tables
lawful_of class tables some few right within = record {
  some_class = some;
  few_classes = few;
  a_table_each = refl;
  tables_right = right;
  class_known = λ day rest half_hour there. (class (date day) rest half_hour, cond-true _ _ _ there, within (date day) rest half_hour);
  class_none = λ day rest half_hour gone. cond-false _ _ _ gone;
  priced_by_steps = λ class k. refl;
}

halved_bound : (used : Bool) (n : ℕ) → n ≤ 2000000 → halved_unless used n ≤ 2000000
halved_bound true n h = h
halved_bound false n h = omega arith

pub standard_lawful : (capacity : ℕ) → capacity ≤ 49 → Lawful (standard capacity) standard_tables
standard_lawful capacity h = record {
  tariff = lawful_of standard_class standard_tables (lit≤ tt) (lit≤ tt) (refl, tt) (λ d rest half_hour. lit≤ tt);
  basic_bound = λ used. cond_both used (28600 * capacity) (28600 * capacity / 2) (λ n. n ≤ 2000000) (λ _. omega arith) (λ _. omega arith);
  minimum_bound = lit≤ tt;
}

pub night_lawful : (capacity : ℕ) → capacity ≤ 49 → Lawful (night capacity) night_tables
night_lawful capacity h = record {
  tariff = lawful_of night_class night_tables (lit≤ tt) (lit≤ tt) (refl, (refl, tt)) (λ d rest half_hour. cond_both (between 7 23 half_hour) 0 1 (λ c. c < 2) (λ _. lit≤ tt) (λ _. lit≤ tt));
  basic_bound = λ used. halved_bound used _ (cond_both (nat_le capacity 6) 132000 (220000 + 28600 * (capacity - 10)) (λ n. n ≤ 2000000) (λ _. lit≤ tt) (λ _. omega arith));
  minimum_bound = lit≤ tt;
}

pub seasonal_lawful : (capacity : ℕ) → capacity ≤ 49 → Lawful (seasonal capacity) seasonal_tables
seasonal_lawful capacity h = record {
  tariff = lawful_of seasonal_class seasonal_tables (lit≤ tt) (lit≤ tt) (refl, (refl, (refl, (refl, tt)))) (λ d rest half_hour.
      cond_both (summer d && (not (rest_day d rest) && between 13 16 half_hour)) 0 _ (λ c. c < 4) (λ _. lit≤ tt) (λ _.
      cond_both (between 8 22 half_hour) (cond (summer d) 1 2) 3 (λ c. c < 4) (λ _.
      cond_both (summer d) 1 2 (λ c. c < 4) (λ _. lit≤ tt) (λ _. lit≤ tt)) (λ _. lit≤ tt)));
  basic_bound = λ used. halved_bound used (130240 + 41694 * (capacity - 10)) (omega arith);
  minimum_bound = lit≤ tt;
}

-- an answered class is one of the classes
pub class_within : (m : TariffMeaning) (tables : List (List Step)) → LawfulTariff m tables → (day : ℕ) (rest : Bool) (half_hour class : ℕ) → m.class day rest half_hour ≡ Some class → class < m.classes
class_within m tables l day rest half_hour class e =
    elim (cases_Bool (on_calendar day half_hour)) [
      | inl there ↦
          let known = l.class_known day rest half_hour there in
          let same : known.0 ≡ class = let k = known.1 in cc in
          omega (arith, known.2)
      | inr gone ↦
          let none = l.class_none day rest half_hour gone in
          absurd (let z : ◌≡◌ {A = ℕ} 0 1 = cc in omega arith)
    ]
