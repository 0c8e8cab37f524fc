use Rattle.std.proofs.Common.{arith, rules}
use Rattle.std.proofs.lemmas.Grind.{common_steps}
use Rattle.line.proofs.Written.{handed, wrote_more, wrote_front}
use Rattle.line.proofs.line.Line.write.Goals as goal

pub returns-clause-line : goal.returns-clause-line
returns-clause-line c =
    wrote_front c.args.out.now c.new-pen.ensures.unwritten c.new-pen.ensures.front
    (wrote_more (handed (grind (arith, common_steps)) c.put_decimal.ensures) (wrote_more (handed (grind (arith, common_steps)) c.put.ensures) (wrote_more c.put_outcome.ensures (handed (grind (arith, common_steps)) c.put-2.ensures))))
    (search rules)
