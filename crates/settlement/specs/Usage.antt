-- From hundredths to whole kWh.
use Rattle.std.specs.Prelude.{ℕ, ◌-◌, ◌/◌, List, [], ◌∷◌}
use Rattle.tariff.specs.Rounding.{half_up}

abbrev pub whole_kwh : ℕ → ℕ
whole_kwh hundredths = half_up hundredths 100

-- The kWh by class of the hundredths by class, `left` kWh in all: each class but the last drops its fraction, and the
-- last takes what remains.
abbrev pub kwh_by_class : ℕ → List ℕ → List ℕ
kwh_by_class left [] = []
kwh_by_class left (x ∷ []) = left ∷ []
kwh_by_class left (x ∷ (y ∷ rest)) = x / 100 ∷ kwh_by_class (left - x / 100) (y ∷ rest)
