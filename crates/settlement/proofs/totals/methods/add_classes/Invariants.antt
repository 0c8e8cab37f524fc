use Rattle.settlement.proofs.Adding.{Added}
use Rattle.settlement.proofs.totals.methods.add_classes.Given as goal

abbrev pub invariant-loop-half_hour : goal.invariant-loop-half_hour
invariant-loop-half_hour g l = Added ((g.T.Tariff.meaning l.tariff).class l.day l.reading.rest) g.T.Tariff.CLASSES l.reading.used l.initial.sums l.half_hour l.sums
