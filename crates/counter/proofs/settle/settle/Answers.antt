use Rattle.counter.proofs.Lines.{run_told, run_law}
use Rattle.counter.proofs.settle.settle.Goals as goal

pub returns-then-measured-out-clause-told : goal.returns-then-measured-out-clause-told
returns-then-measured-out-clause-told c = run_told c.args.input.now

pub returns-then-measured-out-clause-law : goal.returns-then-measured-out-clause-law
returns-then-measured-out-clause-law c = run_law c.args.input.now

pub returns-clause-told : goal.returns-clause-told
returns-clause-told c = run_told c.args.input.now

pub returns-clause-law : goal.returns-clause-law
returns-clause-law c = run_law c.args.input.now
