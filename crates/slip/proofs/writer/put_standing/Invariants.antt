use Rattle.std.proofs.Common.{take}
use Rattle.line.specs.Lines.{Wrote}
use Rattle.slip.specs.Format.{standing_bytes}
use Rattle.slip.proofs.writer.put_standing.Given as goal

abbrev pub invariant-loop-figure : goal.invariant-loop-figure
invariant-loop-figure l = Wrote l.fn.pen (standing_bytes (take l.figure-index l.figures)) l.pen
