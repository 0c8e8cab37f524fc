-- The refusal of writing a line, by number and place.
use Rattle.tariff.specs.declared.refusal.Refusal.{Refusal}
use Rattle.line.specs.declared.fault.LineFault.{LineFault}
use Rattle.line.specs.declared.fault.LineFault.TheVariants.{Buffer}

abbrev pub line_refusal : LineFault → Refusal
line_refusal Buffer = record { number = 40; place = 0 }
