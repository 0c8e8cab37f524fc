use Rattle.std.proofs.Common.{◌<◌, length, take, sum, sym, refl, ◌∙◌, arith}
use Rattle.std.proofs.lemmas.Bool.{cond-true, cond-false}
use Rattle.account.specs.View.{lengths_of, ledger_of}
use Rattle.account.proofs.Calls.{refuses, refuses_on, accepts, has_place}
use Rattle.account.proofs.Held.{entered, still_standing}
use Rattle.account.proofs.account.Account.post.Goals as goal

pub returns-in_err-reading : goal.returns-in_err-reading
returns-in_err-reading g c =
    let a = c.args.self.now in
    refuses_on _ _ a _ _ (g.met.S.Supply.bound a.supply) refl _ _ c.in_err-reading.field-0.0 c.from_residual.ensures.1 (c.in_err-reading.ensures _) refl

pub returns-then-has : goal.returns-then-has
returns-then-has g c =
    let a = c.args.self.now in
    let read = c.in_ok-reading.ensures in
    let some = sym c.has.ensures ∙ c.if-has.true in
    refuses _ _ a _ _ (g.met.S.Supply.bound a.supply) refl _ (read.2 _ ∙ cond-true _ _ _ some) refl

pub put-requires : goal.put-requires
put-requires g c = has_place c.args.self.now c.args.day c.in_ok-reading.ensures.1

pub invariant_of-self : goal.invariant_of-self
invariant_of-self g c =
    let a = c.args.self.now in
    let n = sum (take (length a.closed.items) (lengths_of a.calendar)) in
    record { counted = a.counted; complete = still_standing n a.table.days _ c.args.day c.in_ok-reading.reading c.put.ensures a.complete }

pub returns : goal.returns
returns g c =
    let a = c.args.self.now in
    let read = c.in_ok-reading.ensures in
    let none = sym c.has.ensures ∙ c.if-has.false in
    let there : c.args.day < length a.table.days = omega (arith, has_place a c.args.day read.1, a.table.wide) in
    accepts _ _ a _ _ (g.met.S.Supply.bound a.supply) refl _ (read.2 _ ∙ cond-false _ _ _ none) refl
    (entered (ledger_of a).closed a.table.days _ c.args.day c.in_ok-reading.reading _ read.0 c.put.ensures there)
