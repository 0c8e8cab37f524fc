use Rattle.std.proofs.Common.{arith}
use Rattle.account.proofs.Held.{calendar_days, month_place}
use Rattle.account.proofs.calendar.Calendar.days_of.Goals as goal

pub returns-clause-rising : goal.returns-clause-rising
returns-clause-rising c = (month_place c.args.self.now c.args.month _ _ c.requires c.start.ensures c.start-2.ensures).0

pub returns-clause-few : goal.returns-clause-few
returns-clause-few c =
    let place = month_place c.args.self.now c.args.month _ _ c.requires c.start.ensures c.start-2.ensures in
    omega (arith, calendar_days c.args.self.now)
