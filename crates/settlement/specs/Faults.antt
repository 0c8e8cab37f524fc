-- The refusals of settling a month, by number and place, and in words.
use Rattle.std.specs.Prelude.{ℕ, List, codes}
use Rattle.tariff.specs.declared.refusal.Refusal.{Refusal}
use Rattle.settlement.specs.declared.fault.MonthFault.{MonthFault}
use Rattle.settlement.specs.declared.fault.MonthFault.TheVariants.{UnknownBox, Price}

abbrev pub month_refusal : MonthFault → Refusal
month_refusal UnknownBox = record { number = 13; place = 0 }
month_refusal Price = record { number = 27; place = 0 }

-- what a clerk is told of a refusal
abbrev pub month_reason : MonthFault → List ℕ
month_reason UnknownBox = codes "the box is not S, M, L, T or R"
month_reason Price = codes "fuel is not -10000 to 10000, or levy or buy not 0 to 10000"
