use Rattle.tariff.proofs.Century.{weekend_is}
use Rattle.tariff.proofs.day.Day.is_weekend.Goals as goal

pub returns : goal.returns
returns c = weekend_is c.args.self.number c.args.self.exists
