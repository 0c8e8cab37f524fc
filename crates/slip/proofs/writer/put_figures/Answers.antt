use Rattle.line.proofs.Written.{wrote_more}
use Rattle.slip.proofs.writer.put_figures.Goals as goal

pub returns-clause-wrote : goal.returns-clause-wrote
returns-clause-wrote c = wrote_more c.put_map.ensures c.put_standing.ensures
