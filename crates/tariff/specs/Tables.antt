-- What a `StepTable` holds.
use Rattle.std.specs.Prelude.{List, take}
use Rattle.tariff.specs.Steps.{Step}
use Rattle.tariff.specs.declared.steps.StepTable.{StepTable}

-- its steps
abbrev pub steps_of : StepTable → List Step
steps_of t = take t.count t.steps
