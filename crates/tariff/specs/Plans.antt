-- Supplies by number: which ground refuses one, and what the supply that is made means.
use Rattle.std.specs.Prelude.{ℕ, cond, ◌&&◌, List, Some, None, Option, ◌==◌, nat_le}
use Rattle.tariff.specs.Discount.{is_percent, discounted, discounted_tables}
use Rattle.tariff.specs.Meaning.{Meaning}
use Rattle.tariff.specs.Steps.{Step}
use Rattle.tariff.specs.Tariffs.{is_capacity, standard, standard_tables, night, night_tables, seasonal, seasonal_tables}
use Rattle.tariff.specs.declared.fault.PlanFault.{PlanFault}
use Rattle.tariff.specs.declared.fault.PlanFault.TheVariants.{Tariff, Capacity, Percent}
use Rattle.tariff.specs.declared.discount.Discount.{Discount}
use Rattle.tariff.specs.declared.kind.TariffKind.{TariffKind}
use Rattle.tariff.specs.declared.kind.TariffKind.TheVariants as kind
use Rattle.tariff.specs.declared.night.Night as night_tariff
use Rattle.tariff.specs.declared.plan.ByTariff.{ByTariff}
use Rattle.tariff.specs.declared.plan.ByTariff.TheVariants.{Standard, Night, Seasonal}
use Rattle.tariff.specs.declared.seasonal.Seasonal as seasonal_tariff
use Rattle.tariff.specs.declared.standard.Standard as standard_tariff

-- the first ground against making a supply of a tariff number, a capacity and a percent
abbrev pub plan_ground : ℕ → ℕ → ℕ → Option PlanFault
plan_ground tariff capacity percent =
    cond (nat_le 1 tariff && nat_le tariff 3) (cond (is_capacity capacity) (cond (is_percent percent) None (Some Percent)) (Some Capacity)) (Some Tariff)

-- the tariffs are numbered 1 Standard, 2 Night, 3 Seasonal
abbrev pub numbered : ℕ → ℕ → Meaning
numbered tariff capacity = cond (tariff == 1) (standard capacity) (cond (tariff == 2) (night capacity) (seasonal capacity))

abbrev pub numbered_tables : ℕ → List (List Step)
numbered_tables tariff = cond (tariff == 1) standard_tables (cond (tariff == 2) night_tables seasonal_tables)

-- the kind of whatever is held by kind
abbrev pub kind_of : {A B C : Type 0} → ByTariff A B C → TariffKind
kind_of (Standard a) = kind.Standard
kind_of (Night b) = kind.Night
kind_of (Seasonal c) = kind.Seasonal

abbrev pub Plan : Type 0
Plan = ByTariff (Discount standard_tariff.Standard) (Discount night_tariff.Night) (Discount seasonal_tariff.Seasonal)

-- what a plan means
abbrev pub plan_meaning : Plan → Meaning
plan_meaning (Standard d) = discounted d.percent (standard d.supply.capacity.size)
plan_meaning (Night d) = discounted d.percent (night d.supply.capacity.size)
plan_meaning (Seasonal d) = discounted d.percent (seasonal d.supply.capacity.size)

abbrev pub plan_tables : Plan → List (List Step)
plan_tables (Standard d) = discounted_tables d.percent standard_tables
plan_tables (Night d) = discounted_tables d.percent night_tables
plan_tables (Seasonal d) = discounted_tables d.percent seasonal_tables
