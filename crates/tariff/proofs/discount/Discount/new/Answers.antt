use Rattle.std.proofs.Common.{arith, rules}
use Rattle.tariff.specs.Percent.{discount_holds}
use Rattle.tariff.proofs.discount.Discount.new.Goals as goal

pub returns : goal.returns
returns g c = record {
  made = search rules;
  holds = discount_holds c.args.percent (omega arith) _ _ (g.met.S.Supply.bound c.args.supply);
}
