use Rattle.std.proofs.Common.{◌≡◌, drop}
use Rattle.tariff.specs.Steps.{rising}
use Rattle.tariff.proofs.steps.methods.rises.Given as goal

abbrev pub invariant-loop-i : goal.invariant-loop-i
invariant-loop-i l = rising 0 l.steps ≡ rising l.from (drop l.i l.steps)
