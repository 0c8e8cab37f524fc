use Rattle.std.proofs.Common.{◌≤◌, length, decimal, arith}
use Rattle.std.proofs.lemmas.Fmt.{length-decimal-le}
use Rattle.line.proofs.line.Line.length.Goals as goal

pub returns-clause-bound : goal.returns-clause-bound
returns-clause-bound c few =
    let six : length (decimal c.args.self.now.number) ≤ 6 = length-decimal-le 6 c.args.self.now.number (omega arith) (omega arith) (omega arith) in
    omega arith
