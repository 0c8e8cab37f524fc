-- Which days a month has, and which month a day is in.
use Rattle.std.proofs.Common.{◌≡◌, ℕ, zero, suc, ◌+◌, ◌-◌, ◌<◌, ◌≤◌, ltb, List, [], ◌∷◌, map, length, get_or, take, drop, sum, sym, refl, ap, ◌∙◌, inl, inr, arith}
use Rattle.std.proofs.lemmas.List.{at_drop_more, take-take}
use Rattle.std.proofs.lemmas.List.Sums.{sum_by-cons, sum_by_more, sum_by-take-le}
use Rattle.std.proofs.lemmas.Bool.{cases_lt, cases_order, cond_both, ltb-true, ltb-false}
use Rattle.std.specs.List.{range_with_len}
use Rattle.account.specs.Ledger.{Opening, days, month_start, month_length, month_in, month_of_day}

-- days that a list holds, one by one, are a part of it
pub window : {X : Type 0} (xs : List X) (d : X) (s n : ℕ) → s + n ≤ length xs → map (λ day. get_or xs day d) (range_with_len s n) ≡ take n (drop s xs)
window xs d s zero h = refl
window xs d s (suc n) h =
    ap (λ rest. get_or xs s d ∷ rest) (window xs d (s + 1) n (omega arith)) ∙ sym (at_drop_more (take (suc n)) xs s d (omega arith))

-- a month of the calendar, and a day in it
abbrev pub InMonth : List ℕ → ℕ → ℕ → Type 0
InMonth lengths day month =
    (month < length lengths) × (sum (take month lengths) ≤ day) × (day < sum (take month lengths) + get_or lengths month 0)

later : (n : ℕ) (lengths : List ℕ) (day month : ℕ) → n ≤ day → InMonth lengths (day - n) month → InMonth (n ∷ lengths) day (suc month)
later n lengths day month h at =
    let first = sum_by-cons (λ x. x) n (take month lengths) in (omega (arith, at.0), omega (arith, at.1), omega (arith, at.2))

pub month_known : (lengths : List ℕ) (day : ℕ) → day < sum lengths → InMonth lengths day (month_in lengths day)
month_known [] day h = absurd (omega arith)
month_known (n ∷ lengths) day h =
    let first = sum_by-cons (λ x. x) n lengths in
    cond_both (ltb day n) 0 (suc (month_in lengths (day - n))) (InMonth (n ∷ lengths) day)
    (λ e. let lt = ltb-true day n e in (omega arith, omega arith, omega arith))
    (λ e. let le = ltb-false day n e in later n lengths day _ le (month_known lengths (day - n) (omega arith)))

module _ (o : Opening) where
  pub start_more : (month : ℕ) → month < length o.lengths → month_start o (month + 1) ≡ month_start o month + month_length o month
  start_more month h = sum_by_more (λ x. x) o.lengths month 0 h

  start_grows : (month other : ℕ) → month ≤ other → month_start o month ≤ month_start o other
  start_grows month other h = rw (take-take month other o.lengths h) at (sum_by-take-le (λ x. x) (take other o.lengths) month)

  -- a month ends before the months behind it start
  pub month_ends : (month other : ℕ) → month < other → other ≤ length o.lengths → month_start o month + month_length o month ≤ month_start o other
  month_ends month other lt le = omega (arith, start_more month (omega arith), start_grows (month + 1) other (omega arith))

  pub one_month : (day month other : ℕ) → InMonth o.lengths day month → InMonth o.lengths day other → month ≡ other
  one_month day month other at at' = elim (cases_order month other) [
    | inl same ↦ same
    | inr (inl lt) ↦ absurd (omega (arith, month_ends month other lt (omega (arith, at'.0)), at.2, at'.1))
    | inr (inr gt) ↦ absurd (omega (arith, month_ends other month gt (omega (arith, at.0)), at'.2, at.1))
  ]

  -- the days before a month's start are those of the months before it
  pub before_month : (day month : ℕ) → day < days o → month ≤ length o.lengths → (day < month_start o month → month_of_day o day < month) × (month_of_day o day < month → day < month_start o month)
  before_month day month within le =
      let own = month_of_day o day in
      let at = month_known o.lengths day within in (
        λ lt. elim (cases_lt own month) [ inl before ↦ before | inr behind ↦ absurd (omega (arith, start_grows month own behind, at.1)) ],
        λ lt. omega (arith, month_ends own month lt le, at.2),
      )
