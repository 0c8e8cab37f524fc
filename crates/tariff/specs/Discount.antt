-- What a discount means: each price at the percent, all else as below it.
use Rattle.std.specs.Prelude.{◌≡◌, ℕ, ◌*◌, Bool, ◌&&◌, List, map, nat_le}
use Rattle.std.specs.Option.{option_map}
use Rattle.tariff.specs.Meaning.{TariffMeaning, Meaning, Lawful}
use Rattle.tariff.specs.Rounding.{half_up}
use Rattle.tariff.specs.Steps.{Step}

-- percents are 1 to 100
abbrev pub is_percent : ℕ → Bool
is_percent n = nat_le 1 n && nat_le n 100

-- the discounted price, half-up to a sen
abbrev pub percent_of : ℕ → ℕ → ℕ
percent_of percent price = half_up (price * percent) 100

abbrev pub discounted_tariff : ℕ → TariffMeaning → TariffMeaning
discounted_tariff percent m = record {
  classes = m.classes;
  class = m.class;
  price = λ class k. option_map (percent_of percent) (m.price class k);
}

abbrev pub discounted : ℕ → Meaning → Meaning
discounted percent m = record {
  tariff = discounted_tariff percent m.tariff;
  basic = m.basic;
  minimum = m.minimum;
}

abbrev pub discounted_step : ℕ → Step → Step
discounted_step percent s = (s.0, percent_of percent s.1)

abbrev pub discounted_tables : ℕ → List (List Step) → List (List Step)
discounted_tables percent tables = map (map (discounted_step percent)) tables

-- the discounted meaning is that of a lawful supply, with the discounted tables; at 100 percent nothing changes
pub record DiscountHolds (percent : ℕ) (m : Meaning) (tables : List (List Step)) : Type 0 where
  pub lawful : Lawful (discounted percent m) (discounted_tables percent tables)
  pub full : percent ≡ 100 → discounted percent m ≡ m
