use Rattle.std.proofs.Common.{sym, ◌∙◌, arith}
use Rattle.tariff.proofs.Priced.{in_step, in_last, no_step, no_more, every_priced, four_at_most}
use Rattle.tariff.proofs.supply.price_of.Goals as goal

pub returns-then-kwh-end : goal.returns-then-kwh-end
returns-then-kwh-end g c =
    let law = g.met.T.Tariff.lawful c.args.tariff.now in
    let found = c.in-Some-Some-default.ensures in
    record {
      value = in_step _ _ c.loop-i.i _ c.loop-i.invariant c.in-Some-Some-default.end c.in-Some-Some-default.price (cc) c.if-kwh-end.true ∙ sym (law.priced_by_steps _ _);
      every = every_priced _ _ law;
    }

pub returns-in-Some-None-default : goal.returns-in-Some-None-default
returns-in-Some-None-default g c =
    let law = g.met.T.Tariff.lawful c.args.tariff.now in
    let found = c.in-Some-None-default.ensures in
    record {
      value = in_last _ _ c.loop-i.i _ c.loop-i.invariant c.in-Some-None-default.price (cc) ∙ sym (law.priced_by_steps _ _);
      every = every_priced _ _ law;
    }

pub returns-in-None : goal.returns-in-None
returns-in-None g c =
    let law = g.met.T.Tariff.lawful c.args.tariff.now in
    record {
      value = no_step _ _ c.loop-i.i _ c.loop-i.invariant c.in-None.ensures ∙ sym (law.priced_by_steps _ _);
      every = every_priced _ _ law;
    }

pub returns : goal.returns
returns g c =
    let law = g.met.T.Tariff.lawful c.args.tariff.now in
    let few = four_at_most (g.T.Tariff.tables c.args.tariff.now) c.args.class law.tables_right in
    record {
      value = no_more _ _ c.loop-i.i _ c.loop-i.invariant (omega arith) ∙ sym (law.priced_by_steps _ _);
      every = every_priced _ _ law;
    }
