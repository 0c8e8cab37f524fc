use Rattle.std.proofs.Common.{map, take}
use Rattle.line.specs.Lines.{Wrote}
use Rattle.slip.specs.Format.{map_byte}
use Rattle.slip.proofs.writer.put_map.Given as goal

abbrev pub invariant-loop-eight : goal.invariant-loop-eight
invariant-loop-eight l = Wrote l.fn.pen (map (map_byte 128) (take l.eight-index l.eights)) l.pen
