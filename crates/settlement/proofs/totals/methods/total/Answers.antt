use Rattle.std.proofs.Common.{◌≡◌, length, sum, arith, rules}
use Rattle.std.proofs.iter.runs.Sources.{sums}
use Rattle.settlement.proofs.Adding.{figures_sum}
use Rattle.settlement.proofs.totals.methods.total.Goals as goal

pub sum-requires-clause-fits : goal.sum-requires-clause-fits
sum-requires-clause-fits c = search (rules, sums)

pub returns-clause-bound : goal.returns-clause-bound
returns-clause-bound c =
    let value : c.sum.result ≡ sum c.args.figures.now = search rules in
    let many : length c.args.figures.now ≡ 48 = search rules in
    omega (arith, figures_sum c.args.figures.now c.requires)
