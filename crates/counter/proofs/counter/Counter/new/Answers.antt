use Rattle.counter.proofs.Runs.{run_kept}
use Rattle.counter.proofs.counter.Counter.new.Goals as goal

pub returns-clause-law : goal.returns-clause-law
returns-clause-law c = run_kept
