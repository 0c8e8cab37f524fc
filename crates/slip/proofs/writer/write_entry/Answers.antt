use Rattle.std.proofs.Common.{length, refl, ap, ◌∙◌, arith, rules}
use Rattle.std.proofs.lemmas.Grind.{common_steps}
use Rattle.slip.specs.Format.{post}
use Rattle.settlement.specs.Handed.{figures_in}
use Rattle.line.proofs.Written.{handed, wrote_more}
use Rattle.slip.proofs.Grounds.{no_ground, buffer_ground, whole_lists, mark_is, packed_length, entry_length}
use Rattle.slip.proofs.Pens.{put_front}
use Rattle.slip.proofs.Standing.{standing_count}
use Rattle.slip.proofs.writer.write_entry.Goals as goal

pub returns-then-out-count_standing-clause-put : goal.returns-then-out-count_standing-clause-put
returns-then-out-count_standing-clause-put c =
    let f = figures_in c.args.figures.now in (
      buffer_ground (post c.args.day f) (length c.args.out.now) refl (whole_lists f.used f.surplus (omega arith) (omega arith))
          (omega (arith, entry_length 80 c.args.day f, standing_count f.used, standing_count f.surplus)),
      refl,
    )

pub put_figures-requires-clause-room : goal.put_figures-requires-clause-room
put_figures-requires-clause-room c =
    let f = figures_in c.args.figures.now in
    omega (arith, ap length c.new-pen.ensures.unwritten, standing_count f.used)

pub put_figures-requires-2-clause-room : goal.put_figures-requires-2-clause-room
put_figures-requires-2-clause-room c =
    let f = figures_in c.args.figures.now in
    let first = handed (grind (arith, common_steps)) c.put.ensures in
    let third = handed (grind (arith, common_steps)) c.put-2.ensures in
    omega (arith, ap length c.new-pen.ensures.unwritten, packed_length f.used, standing_count f.used, standing_count f.surplus)

pub returns-clause-put : goal.returns-clause-put
returns-clause-put c =
    let f = figures_in c.args.figures.now in
    put_front _ c.args.out.now c.new-pen.ensures.unwritten c.new-pen.ensures.front
    (rw (c.from.ensures ∙ mark_is c.args.figures.now.rest) at (wrote_more (handed (grind (arith, common_steps)) c.put.ensures) (wrote_more c.put_number.ensures (wrote_more (handed (grind (arith, common_steps)) c.put-2.ensures) (wrote_more c.put_figures.ensures.wrote c.put_figures-2.ensures.wrote)))))
    (no_ground (post c.args.day f) (length c.args.out.now) refl (whole_lists f.used f.surplus (omega arith) (omega arith))) (search rules)
