use Rattle.std.proofs.Common.{length, refl, arith, rules}
use Rattle.std.proofs.lemmas.Grind.{common_steps}
use Rattle.slip.specs.Format.{opening}
use Rattle.slip.specs.View.{opening_of}
use Rattle.line.proofs.Written.{handed, wrote_more}
use Rattle.slip.proofs.Grounds.{no_ground, right_months}
use Rattle.slip.proofs.Pens.{put_front, wrote_bytes}
use Rattle.slip.proofs.writer.write_opening.Goals as goal

pub returns-clause-written : goal.returns-clause-written
returns-clause-written c =
    let o = opening_of c.args.opening.now in
    put_front _ c.args.out.now c.new-pen.ensures.unwritten c.new-pen.ensures.front
    (wrote_more (handed (grind (arith, common_steps)) c.put.ensures) (wrote_more c.put_number.ensures (wrote_more (handed (grind (arith, common_steps)) c.put-2.ensures) (handed (grind (arith, common_steps)) c.put-3.ensures))))
    (no_ground (opening o) (length c.args.out.now) (right_months (length o.lengths) (omega arith) (omega arith)) refl) (search rules)

pub returns-clause-fits : goal.returns-clause-fits
returns-clause-fits c =
    record {
      tariff = search rules;
      capacity = search rules;
      percent = search rules;
      letter = search rules;
      first = search rules;
      some_month = omega arith;
      few_months = omega arith;
      lengths = wrote_bytes (λ i lt. (c.type_inv.out i).fits) (search rules) (handed (grind (arith, common_steps)) c.put-3.ensures);
    }
