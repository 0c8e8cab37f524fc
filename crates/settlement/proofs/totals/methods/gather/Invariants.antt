use Rattle.std.proofs.Common.{◌≡◌, ◌*◌, ◌≤◌, length, take, sum}
use Rattle.settlement.specs.Totals.{all_figures}
use Rattle.settlement.proofs.Gathering.{SoFar}
use Rattle.settlement.proofs.totals.methods.gather.Given as goal

abbrev pub invariant-loop-i : goal.invariant-loop-i
invariant-loop-i g l =
    (length l.by_class ≡ 4)
    × (sum (take g.T.Tariff.CLASSES l.by_class) ≡ l.used)
    × (l.used ≤ 120000 * l.i)
    × (l.surplus ≤ 120000 * l.i)
    × SoFar (g.T.Tariff.meaning l.tariff) l.first (all_figures l.days) l.i (record { used = l.used; by_class = take g.T.Tariff.CLASSES l.by_class; surplus = l.surplus })
