use Rattle.std.proofs.Common.{arith, length, sym, refl, ap, ◌∙◌, rules, w16, of_z}
use Rattle.std.proofs.lemmas.Int.{to_z-of_z}
use Rattle.std.proofs.lemmas.Grind.{common_steps}
use Rattle.slip.specs.Format.{close}
use Rattle.line.proofs.Written.{handed, wrote_more, wrote_as}
use Rattle.slip.proofs.Grounds.{no_ground, closing_bytes}
use Rattle.slip.proofs.Pens.{put_front}
use Rattle.slip.proofs.writer.write_closing.Goals as goal

pub returns-clause-written : goal.returns-clause-written
returns-clause-written c =
    let p = c.args.prices.now in
    let is = closing_bytes p c.cast_unsigned.result (c.cast_unsigned.ensures ∙ ap (of_z w16) (to_z-of_z w16 p.fuel (search rules))) in
    put_front _ c.args.out.now c.new-pen.ensures.unwritten c.new-pen.ensures.front
    (wrote_as (sym is) (rw c.map_byte.ensures at (wrote_more (handed (grind (arith, common_steps)) c.put.ensures) c.put_standing.ensures)))
    (no_ground (close p) (length c.args.out.now) refl refl) (search rules)
