-- The refusals of reading and writing slips, by number and place.
use Rattle.tariff.specs.declared.refusal.Refusal.{Refusal}
use Rattle.slip.specs.declared.fault.SlipFault.{SlipFault}
use Rattle.slip.specs.declared.fault.SlipFault.TheVariants.{Empty, Letter, Short, Map, Zero, Rest, Months}
use Rattle.slip.specs.declared.fault.WritingFault.{WritingFault}
use Rattle.slip.specs.declared.fault.WritingFault.TheVariants as writing

abbrev pub slip_refusal : SlipFault → Refusal
slip_refusal Empty = record { number = 1; place = 0 }
slip_refusal Letter = record { number = 2; place = 0 }
slip_refusal (Short bytes) = record { number = 3; place = bytes }
slip_refusal (Map place) = record { number = 4; place = place }
slip_refusal (Zero place) = record { number = 5; place = place }
slip_refusal (Rest place) = record { number = 6; place = place }
slip_refusal (Months place) = record { number = 7; place = place }

abbrev pub writing_refusal : WritingFault → Refusal
writing_refusal writing.Months = record { number = 14; place = 0 }
writing_refusal writing.Figures = record { number = 21; place = 0 }
writing_refusal writing.Buffer = record { number = 40; place = 0 }
