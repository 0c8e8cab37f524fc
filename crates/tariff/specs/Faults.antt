-- The refusals of making a supply, by number and place, and in words.
use Rattle.std.specs.Prelude.{ℕ, List, codes}
use Rattle.tariff.specs.declared.fault.PlanFault.{PlanFault}
use Rattle.tariff.specs.declared.fault.PlanFault.TheVariants.{Tariff, Capacity, Percent}
use Rattle.tariff.specs.declared.refusal.Refusal.{Refusal}

abbrev pub plan_refusal : PlanFault → Refusal
plan_refusal Tariff = record { number = 10; place = 0 }
plan_refusal Capacity = record { number = 11; place = 0 }
plan_refusal Percent = record { number = 12; place = 0 }

-- what a clerk is told of a refusal
abbrev pub plan_reason : PlanFault → List ℕ
plan_reason Tariff = codes "the tariff is not 1 (Standard), 2 (Night) or 3 (Seasonal)"
plan_reason Capacity = codes "the capacity is not 1 to 49"
plan_reason Percent = codes "the percent is not 1 to 100"
