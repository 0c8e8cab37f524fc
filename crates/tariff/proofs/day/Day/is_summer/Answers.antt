use Rattle.std.proofs.Common.{arith}
use Rattle.std.proofs.lemmas.Bool.Decides.{nat_tests}
use Rattle.tariff.proofs.Century.{summer_is}
use Rattle.tariff.proofs.day.Day.is_summer.Goals as goal

pub returns-then-of_four_years-gt-JULY : goal.returns-then-of_four_years-gt-JULY
returns-then-of_four_years-gt-JULY c = let e = summer_is c.args.self.number c.args.self.exists in grind (arith, nat_tests)

pub returns-else-of_four_years-gt-JULY : goal.returns-else-of_four_years-gt-JULY
returns-else-of_four_years-gt-JULY c = let e = summer_is c.args.self.number c.args.self.exists in grind (arith, nat_tests)

pub returns-then-of_year-ge-JULY : goal.returns-then-of_year-ge-JULY
returns-then-of_year-ge-JULY c = let e = summer_is c.args.self.number c.args.self.exists in grind (arith, nat_tests)

pub returns-else-of_year-ge-JULY : goal.returns-else-of_year-ge-JULY
returns-else-of_year-ge-JULY c = let e = summer_is c.args.self.number c.args.self.exists in grind (arith, nat_tests)
