use Rattle.std.proofs.Common.{◌≡◌, [], get_or, drop}
use Rattle.tariff.specs.Steps.{price_in, price_of}
use Rattle.tariff.proofs.supply.price_of.Given as goal

abbrev pub invariant-loop-i : goal.invariant-loop-i
invariant-loop-i g l = price_in (drop l.i (get_or (g.T.Tariff.tables l.tariff) l.class [])) l.kwh ≡ price_of (g.T.Tariff.tables l.tariff) l.class l.kwh
