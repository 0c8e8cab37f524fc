-- The made-up supply is lawful.
use Rattle.std.specs.Prelude.{◌≡◌, ◌<◌, ◌≤◌, true, cond, length, nat_lt}
use Rattle.std.proofs.Common.{arith, lit≤, length-take}
use Rattle.std.proofs.lemmas.Bool.{and_from, cond_both, le-leb}
use Rattle.tariff.specs.Meaning.{Lawful}
use Rattle.tariff.specs.Steps.{right_table}
use Rattle.tariff.specs.Tables.{steps_of}
use Rattle.tariff.specs.declared.steps.StepTable.{StepTable}
use Rattle.tariff.specs.Lawful.{lawful_of}
use Rattle.settlement_tests.specs.TwoRates.{rates, rate_tables}
use Rattle.settlement_tests.specs.declared.two_rates.TwoRates.{TwoRates as Rates}

table_right : (t : StepTable) → right_table (steps_of t) ≡ true
table_right t =
    let few : length (steps_of t) ≤ 4 = simp length-take (omega (arith, t.few)) in
    and_from _ _ (le-leb _ 4 few) t.right

pub rates_lawful : (t : Rates) → Lawful (rates t) (rate_tables t)
rates_lawful t = record {
  tariff = lawful_of (λ date rest half_hour. cond (nat_lt half_hour 24) 0 1) (rate_tables t) (lit≤ tt) (lit≤ tt) (table_right t.morning, (table_right t.afternoon, tt)) (λ date rest half_hour. cond_both (nat_lt half_hour 24) 0 1 (λ c. c < 2) (λ _. lit≤ tt) (λ _. lit≤ tt));
  basic_bound = λ used. lit≤ tt;
  minimum_bound = lit≤ tt;
}
