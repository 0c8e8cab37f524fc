-- A made-up supply of two classes, before and after noon.
use Rattle.std.specs.Prelude.{cond, List, [], ◌∷◌, nat_lt}
use Rattle.tariff.specs.Meaning.{Meaning}
use Rattle.tariff.specs.Steps.{Step}
use Rattle.tariff.specs.Tables.{steps_of}
use Rattle.tariff.specs.Tariffs.{tariff_of}
use Rattle.settlement_tests.specs.declared.two_rates.TwoRates.{TwoRates as Rates}

abbrev pub rate_tables : Rates → List (List Step)
rate_tables t = steps_of t.morning ∷ steps_of t.afternoon ∷ []

abbrev pub rates : Rates → Meaning
rates t = record { tariff = tariff_of (λ date rest half_hour. cond (nat_lt half_hour 24) 0 1) (rate_tables t); basic = λ used. 0; minimum = 0 }
