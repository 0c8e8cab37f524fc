use Rattle.std.proofs.Common.{◌<◌, ◌≤◌, length, None, sum, sym, refl, ◌∙◌, arith}
use Rattle.std.proofs.lemmas.Bool.{cond-true, cond-false, le-leb, lt-leb, lt-ltb, le-ltb}
use Rattle.account.specs.Ledger.{closed_days}
use Rattle.account.specs.View.{lengths_of, opening_of, ledger_of}
use Rattle.account.proofs.Calls.{refuses, accepts, has_place}
use Rattle.account.proofs.Held.{written}
use Rattle.account.proofs.account.Account.strike.Goals as goal

pub returns-then-day-days : goal.returns-then-day-days
returns-then-day-days g c =
    let a = c.args.self.now in
    let past = le-leb (sum (lengths_of a.calendar)) c.args.day (omega (arith, c.days.ensures)) in
    refuses _ _ a _ _ (g.met.S.Supply.bound a.supply) refl _ (cond-true _ _ _ past) refl

pub returns-then-not-has : goal.returns-then-not-has
returns-then-not-has g c =
    let a = c.args.self.now in
    let within = lt-leb (sum (lengths_of a.calendar)) c.args.day (omega (arith, c.days.ensures)) in
    let none = sym c.has.ensures ∙ c.if-not-has.true in
    refuses _ _ a _ _ (g.met.S.Supply.bound a.supply) refl _ (cond-false _ _ _ within ∙ cond-false _ _ _ none) refl

pub returns-then-day-closed_days : goal.returns-then-day-closed_days
returns-then-day-closed_days g c =
    let a = c.args.self.now in
    let within = lt-leb (sum (lengths_of a.calendar)) c.args.day (omega (arith, c.days.ensures)) in
    let some = sym c.has.ensures ∙ c.if-not-has.false in
    let early : c.args.day < closed_days (opening_of g.S.Supply.whole g.S.Tariff.tables a) (ledger_of a) = omega (arith, c.closed_days.ensures) in
    refuses _ _ a _ _ (g.met.S.Supply.bound a.supply) refl _ (cond-false _ _ _ within ∙ cond-true _ _ _ some ∙ cond-true _ _ _ (lt-ltb _ _ early)) refl

pub returns : goal.returns
returns g c =
    let a = c.args.self.now in
    let inside : c.args.day < sum (lengths_of a.calendar) = omega (arith, c.days.ensures) in
    let within = lt-leb (sum (lengths_of a.calendar)) c.args.day inside in
    let some = sym c.has.ensures ∙ c.if-not-has.false in
    let late : closed_days (opening_of g.S.Supply.whole g.S.Tariff.tables a) (ledger_of a) ≤ c.args.day = omega (arith, c.closed_days.ensures) in
    let there : c.args.day < length a.table.days = omega (arith, has_place a c.args.day inside, a.table.wide) in
    accepts _ _ a _ _ (g.met.S.Supply.bound a.supply) refl _ (cond-false _ _ _ within ∙ cond-true _ _ _ some ∙ cond-false _ _ _ (le-ltb _ _ late)) refl
    (written (ledger_of a).closed a.table.days _ c.args.day None c.put.ensures there)
