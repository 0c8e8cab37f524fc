use Rattle.std.proofs.Common.{◌≡◌, ◌+◌, ◌*◌, ◌≤◌, length, take, drop}
use Rattle.slip.specs.Reading.{all_bits, figures, standing}
use Rattle.slip.proofs.Parts.{front}
use Rattle.slip.proofs.reader.Cursor.figures.Given as goal

abbrev pub invariant-loop-half_hour : goal.invariant-loop-half_hour
invariant-loop-half_hour l =
    (l.self.place ≤ l.fn.self.place + 6 + 2 * l.half_hour)
    × (length l.figure-items ≡ 48)
    × (figures l.fn.self.place l.fn.self.rest.now ≡ front (take l.half_hour l.figure-items) (standing (drop l.half_hour (all_bits l.map)) l.self.place l.self.rest.now))
