use Rattle.std.proofs.Common.{refl}
use Rattle.tariff.specs.Calendar.{date}
use Rattle.figures.proofs.figures_stand.Goals as goal

-- each figure is computed
pub returns : goal.returns
unfolding date
returns c = (refl, (refl, (refl, (refl, (refl, (refl, (refl, (refl, (refl, (refl, (refl, (refl, (refl, (refl, (refl, (refl, (refl, tt)))))))))))))))))
