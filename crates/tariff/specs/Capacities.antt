-- What is made at a capacity.
use Rattle.std.specs.Prelude.{◌≡◌, ℕ, true, false, Ok, Err, Result}
use Rattle.tariff.specs.Tariffs.{is_capacity}
use Rattle.tariff.specs.declared.fault.PlanFault.{PlanFault}
use Rattle.tariff.specs.declared.fault.PlanFault.TheVariants.{Capacity}

-- it is of this size, if that is one, and is refused otherwise
abbrev pub MadeAt : {T : Type 0} → (T → ℕ) → ℕ → Result T PlanFault → Type 0
MadeAt size_of size (Ok made) = (size_of made ≡ size) × (is_capacity size ≡ true)
MadeAt size_of size (Err fault) = (fault ≡ Capacity) × (is_capacity size ≡ false)
