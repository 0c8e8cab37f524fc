use Rattle.std.proofs.Common.{arith, ◌≤◌, ◌≡◌, ◌+◌, ◌++◌, ap, length, get_or, take, append-nil}
use Rattle.line.proofs.Written.{wrote_none, wrote_more}
use Rattle.slip.specs.Format.{standing_bytes}
use Rattle.slip.proofs.Standing.{own_bytes, own_none, own_some, standing_more, standing_room}
use Rattle.slip.proofs.writer.put_standing.Goals as goal
use Rattle.slip.proofs.writer.put_standing.Goals.{then-figure-ne0, else-figure-ne0}

pub loop-figure-init : goal.loop-figure-init
loop-figure-init c = wrote_none c.args.pen.now (omega (arith, c.requires))

pub put_number-requires : goal.put_number-requires
put_number-requires c =
    let ns = c.args.figures.now in
    let i = c.loop-figure.figure-index in
    let two : length (own_bytes (get_or ns i 0)) ≡ 2 = ap length (own_some (get_or ns i 0) c.if-figure-ne0.true) in
    let room : length (standing_bytes (take i ns)) + length (own_bytes (get_or ns i 0)) ≤ length (standing_bytes ns) = standing_room ns i (omega arith) in
    omega (arith, c.requires)

pub loop-figure-preserved : goal.loop-figure-preserved
loop-figure-preserved c =
    let ns = c.args.figures.now in
    let i = c.loop-figure.figure-index in
    let n = get_or ns i 0 in
    let more : standing_bytes (take (i + 1) ns) ≡ standing_bytes (take i ns) ++ own_bytes n = standing_more ns i c.loop-figure-test.true in
    elim c.if-figure-ne0.branch [
      | then-figure-ne0 w ↦ rw (w.pen-is, more, own_some n w.if-figure-ne0.true) (wrote_more c.loop-figure.invariant w.put_number.ensures)
      | else-figure-ne0 w ↦ rw (w.pen-is, more, own_none n w.if-figure-ne0.false, append-nil) c.loop-figure.invariant
    ]
