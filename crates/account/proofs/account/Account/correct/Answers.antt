use Rattle.std.proofs.Common.{◌≡◌, ◌+◌, ◌^◌, ◌<◌, ◌≤◌, true, length, take, ℤ, pos, ◌-ℤ◌, neg_ℤ, ◌≤ℤ◌, Some, sum, sym, refl, ap, ◌∙◌, arith, w64, to_z, of_z}
use Rattle.std.proofs.lemmas.Int.{ints}
use Rattle.std.proofs.lemmas.Bool.{cond-true, cond-false, lt-ltb, le-ltb}
use Rattle.settlement.specs.Limits.{net_within}
use Rattle.account.specs.History.{difference}
use Rattle.account.specs.Ledger.{closed_days, closed_numbers, net_in, with_standing, month_of_day}
use Rattle.settlement.specs.Handed.{figures_in}
use Rattle.account.specs.View.{lengths_of, opening_of, ledger_of}
use Rattle.account.proofs.Calls.{refuses, refuses_on, accepts, has_place, month_closed}
use Rattle.account.proofs.Held.{entered, still_standing}
use Rattle.account.proofs.account.Account.correct.Goals as goal

pub returns-in_err-reading : goal.returns-in_err-reading
returns-in_err-reading g c =
    let a = c.args.self.now in
    refuses_on _ _ a _ _ (g.met.S.Supply.bound a.supply) refl _ _ c.in_err-reading.field-0.0 c.from_residual.ensures.1 (c.in_err-reading.ensures _) refl

pub returns-then-not-has : goal.returns-then-not-has
returns-then-not-has g c =
    let a = c.args.self.now in
    let read = c.in_ok-reading.ensures in
    let none = sym c.has.ensures ∙ c.if-not-has.true in
    refuses _ _ a _ _ (g.met.S.Supply.bound a.supply) refl _ (read.2 _ ∙ cond-false _ _ _ none) refl

pub returns-then-day-closed_days : goal.returns-then-day-closed_days
returns-then-day-closed_days g c =
    let a = c.args.self.now in
    let whole = g.S.Supply.whole in
    let tables = g.S.Tariff.tables in
    let read = c.in_ok-reading.ensures in
    let some = sym c.has.ensures ∙ c.if-not-has.false in
    let there : c.args.day < length a.table.days = omega (arith, has_place a c.args.day read.1, a.table.wide) in
    let late : closed_days (opening_of whole tables a) (ledger_of a) ≤ c.args.day = omega (arith, c.closed_days.ensures) in
    accepts whole tables a _ _ (g.met.S.Supply.bound a.supply) refl _ (read.2 _ ∙ cond-true _ _ _ some)
    (ap difference (sym (cond-false _ _ _ (le-ltb _ _ late))))
    (entered (ledger_of a).closed a.table.days _ c.args.day c.in_ok-reading.reading _ read.0 c.put.ensures there)

pub net_of-before-requires : goal.net_of-before-requires
net_of-before-requires g c =
    let a = c.args.self.now in
    month_closed g.S.Supply.whole g.S.Tariff.tables a c.args.day c.month_of-month.result c.in_ok-reading.ensures.1 (omega (arith, c.closed_days.ensures)) c.month_of-month.ensures

pub invariant_of-self-2 : goal.invariant_of-self-2
invariant_of-self-2 g c =
    let a = c.args.self.now in
    let n = sum (take (length a.closed.items) (lengths_of a.calendar)) in
    record { counted = a.counted; complete = still_standing n a.table.days _ c.args.day c.in_ok-reading.reading c.put-2.ensures a.complete }

pub net_of-after-requires : goal.net_of-after-requires
net_of-after-requires g c =
    let a = c.args.self.now in
    month_closed g.S.Supply.whole g.S.Tariff.tables a c.args.day c.month_of-month.result c.in_ok-reading.ensures.1 (omega (arith, c.closed_days.ensures)) c.month_of-month.ensures

within : (z : ℤ) → net_within z ≡ true → (neg_ℤ (pos (2 ^ 61 + 2 ^ 40)) ≤ℤ z) × (z ≤ℤ pos (2 ^ 61 + 2 ^ 40))
within z e = (grind (arith, ints), grind (arith, ints))

difference_is : (x y : ℤ) → net_within x ≡ true → net_within y ≡ true → to_z w64 (of_z w64 (to_z w64 (of_z w64 x) -ℤ to_z w64 (of_z w64 y))) ≡ x -ℤ y
difference_is x y p q = let a = within x p in let b = within y q in omega (arith, ints)

pub returns : goal.returns
returns g c =
    let a = c.args.self.now in
    let whole = g.S.Supply.whole in
    let tables = g.S.Tariff.tables in
    let o = opening_of whole tables a in
    let read = c.in_ok-reading.ensures in
    let f = figures_in c.args.figures in
    let some = sym c.has.ensures ∙ c.if-not-has.false in
    let there : c.args.day < length a.table.days = omega (arith, has_place a c.args.day read.1, a.table.wide) in
    let early : c.args.day < closed_days o (ledger_of a) = omega (arith, c.closed_days.ensures) in
    let leads = entered (ledger_of a).closed a.table.days _ c.args.day c.in_ok-reading.reading f read.0 c.put-2.ensures there in
    let month = c.month_of-month.ensures in
    let after : c.net_of-after.result ≡ net_in (closed_numbers o (with_standing (ledger_of a) c.args.day (Some f)) (month_of_day o c.args.day)) =
    c.net_of-after.ensures.value ∙ (λ i. net_in (closed_numbers o (leads i) (month i))) in
    let before : c.net_of-before.result ≡ net_in (closed_numbers o (ledger_of a) (month_of_day o c.args.day)) =
    c.net_of-before.ensures.value ∙ ap (λ k. net_in (closed_numbers o (ledger_of a) k)) month in
    let told = difference_is c.net_of-after.result c.net_of-before.result c.net_of-after.ensures.bound c.net_of-before.ensures.bound ∙ (λ i. after i -ℤ before i) in
    accepts whole tables a _ _ (g.met.S.Supply.bound a.supply) refl _ (read.2 _ ∙ cond-true _ _ _ some)
    (ap difference (told ∙ sym (cond-true _ _ _ (lt-ltb _ _ early))))
    leads
