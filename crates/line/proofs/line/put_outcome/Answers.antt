use Rattle.std.proofs.Common.{arith, w64, SFits, rules}
use Rattle.std.proofs.lemmas.Grind.{common_steps}
use Rattle.std.proofs.lemmas.Int.{to_z-of_z}
use Rattle.line.proofs.Written.{handed, wrote_more}
use Rattle.line.proofs.line.put_outcome.Goals as goal

pub returns-in-Ok : goal.returns-in-Ok
returns-in-Ok c =
    let fits : SFits w64 c.in-Ok.amount = search rules in
    rw c.in-Ok.is (rw (to_z-of_z w64 c.in-Ok.amount fits) at (wrote_more (handed (grind (arith, common_steps)) c.put.ensures) (handed (grind (arith, common_steps)) c.put_decimal.ensures)))

pub returns-in-Err : goal.returns-in-Err
returns-in-Err c =
    rw c.in-Err.is (wrote_more (handed (grind (arith, common_steps)) c.put-in-Err.ensures) (wrote_more (handed (grind (arith, common_steps)) c.put_decimal-in-Err.ensures) (wrote_more (handed (grind (arith, common_steps)) c.put-in-Err-2.ensures) (handed (grind (arith, common_steps)) c.put_decimal-in-Err-2.ensures))))
