use Rattle.std.proofs.Common.{arith, rules}
use Rattle.std.proofs.lemmas.Grind.{common_steps}
use Rattle.line.proofs.Written.{handed, wrote_as}
use Rattle.slip.proofs.writer.put_number.Goals as goal

pub returns : goal.returns
returns c = wrote_as (search rules) (handed (grind (arith, common_steps)) c.put.ensures)
