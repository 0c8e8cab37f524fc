use Rattle.std.proofs.Common.{◌≡◌, ◌+◌, ◌*◌, ◌≤◌, drop}
use Rattle.slip.specs.Format.{map_byte}
use Rattle.slip.proofs.writer.map_byte.Given as goal

abbrev pub invariant-loop-figure : goal.invariant-loop-figure
invariant-loop-figure l =
    (l.byte ≤ 255)
    × (l.byte + 2 * l.bit ≤ 256)
    × (l.byte + map_byte l.bit (drop l.figure-index l.figures) ≡ map_byte 128 l.figures)
