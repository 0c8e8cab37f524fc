use Rattle.std.proofs.Common.{arith, length, refl, rules}
use Rattle.std.proofs.lemmas.Grind.{common_steps}
use Rattle.slip.specs.Format.{strike}
use Rattle.line.proofs.Written.{handed, wrote_more}
use Rattle.slip.proofs.Grounds.{no_ground}
use Rattle.slip.proofs.Pens.{put_front}
use Rattle.slip.proofs.writer.write_strike.Goals as goal

pub returns : goal.returns
returns c =
    put_front _ c.args.out.now c.new-pen.ensures.unwritten c.new-pen.ensures.front (wrote_more (handed (grind (arith, common_steps)) c.put.ensures) c.put_number.ensures)
    (no_ground (strike c.args.day) (length c.args.out.now) refl refl) (search rules)
