use Rattle.std.proofs.Common.{◌≡◌, ◌+◌, drop}
use Rattle.account.specs.Ledger.{month_in}
use Rattle.account.proofs.calendar.Calendar.month_of.Given as goal

abbrev pub invariant-loop-month : goal.invariant-loop-month
invariant-loop-month l = month_in l.length-items l.day ≡ l.month + month_in (drop l.month l.length-items) l.left
