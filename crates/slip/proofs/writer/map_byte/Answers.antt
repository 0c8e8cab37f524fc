use Rattle.std.proofs.Common.{◌≡◌, ◌+◌, ◌/◌, cond, eqb, get_or, drop, ap, arith}
use Rattle.std.proofs.lemmas.List.{drop_more}
use Rattle.std.proofs.lemmas.Bool.{ne_eqb, eq-eqb}
use Rattle.slip.specs.Format.{map_byte}
use Rattle.slip.proofs.writer.map_byte.Goals as goal
use Rattle.slip.proofs.writer.map_byte.Goals.{then-figure-ne0, else-figure-ne0}

pub loop-figure-preserved : goal.loop-figure-preserved
loop-figure-preserved c =
    let ns = c.args.figures.now in
    let i = c.loop-figure.figure-index in
    let bit = c.loop-figure.bit in
    let n = get_or ns i 0 in
    let next : map_byte bit (drop i ns) ≡ cond (eqb n 0) 0 bit + map_byte (bit / 2) (drop (i + 1) ns) = ap (map_byte bit) (drop_more ns i 0 (omega arith)) in
    elim c.if-figure-ne0.branch [
      | then-figure-ne0 w ↦ let own : cond (eqb n 0) 0 bit ≡ bit = ap (λ t. cond t 0 bit) (ne_eqb n 0 w.if-figure-ne0.true) in (omega (arith, w.byte-is), omega (arith, w.byte-is), omega (arith, w.byte-is))
      | else-figure-ne0 w ↦ let own : cond (eqb n 0) 0 bit ≡ 0 = ap (λ t. cond t 0 bit) (eq-eqb n 0 w.if-figure-ne0.false) in (omega (arith, w.byte-is), omega (arith, w.byte-is), omega (arith, w.byte-is))
    ]
