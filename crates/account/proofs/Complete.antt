-- A month of which every day stands is settled, and settled right.
use Rattle.std.proofs.Common.{◌≡◌, ℕ, zero, suc, ◌+◌, ◌<◌, ◌≤◌, true, false, List, [], ◌∷◌, map, length, get_or, is_some, Some, None, Option, sym, refl, ap, ◌∙◌, inl, inr, arith}
use Rattle.std.proofs.lemmas.List.FromFn.{length-map-range_with_len}
use Rattle.std.proofs.ByRecursion.{All-get_or}
use Rattle.std.proofs.lemmas.List.Sums.{sum_by-take-le}
use Rattle.std.proofs.lemmas.Bool.{and_from, cases_eq, cond-true, le-leb}
use Rattle.std.specs.List.{range_with_len}
use Rattle.std.specs.Option.{option_map}
use Rattle.tariff.specs.Calendar.{last_day}
use Rattle.settlement.specs.Boxes.{limit}
use Rattle.settlement.specs.Settling.{split_of, numbers}
use Rattle.settlement.specs.declared.prices.MonthPrices.{MonthPrices}
use Rattle.settlement.specs.Totals.{Figures, MonthTotals, totals_of, numbered, with_first, all_read, is_month}
use Rattle.settlement.proofs.Months.{gathered_whole, month_best, smallest_within}
use Rattle.account.specs.History.{ShownRight}
use Rattle.account.specs.Ledger.{Opening, LawfulOpening, Ledger, month_start, month_length, month_readings, month_totals, no_prices, first_missing, month_ground}
use Rattle.account.proofs.MonthDays.{start_more}
use Rattle.account.proofs.Unrefused.{needed, completed}

-- each of n days from a day on stands
abbrev pub Stand : (ℕ → Option Figures) → ℕ → ℕ → Type 0
Stand standing a n = (day : ℕ) → a ≤ day → day < a + n → is_some (standing day) ≡ true

pub none_missing : (standing : ℕ → Option Figures) (a n : ℕ) → first_missing standing (range_with_len a n) ≡ None → Stand standing a n
none_missing standing a zero e day le lt = absurd (omega arith)
none_missing standing a (suc n) e day le lt =
    let first = needed (is_some (standing a)) a (first_missing standing (range_with_len (a + 1) n)) e in
    elim (cases_eq a day) [
      | inl here ↦ sym (ap (λ d. is_some (standing d)) here) ∙ first.0
      | inr there ↦ none_missing standing (a + 1) n first.1 day (omega arith) (omega arith)
    ]

pub missing_none : (standing : ℕ → Option Figures) (a n : ℕ) → Stand standing a n → first_missing standing (range_with_len a n) ≡ None
missing_none standing a zero stand = refl
missing_none standing a (suc n) stand =
    rw (stand a (omega arith) (omega arith)) (missing_none standing (a + 1) n (λ day le lt. stand day (omega arith) (omega arith)))

pub first_is_missing : (standing : ℕ → Option Figures) (a n day : ℕ) → a ≤ day → day < a + n → ((k : ℕ) → a ≤ k → k < day → is_some (standing k) ≡ true) → is_some (standing day) ≡ false → first_missing standing (range_with_len a n) ≡ Some day
first_is_missing standing a zero day le lt stand free = absurd (omega arith)
first_is_missing standing a (suc n) day le lt stand free = elim (cases_eq a day) [
  | inl here ↦ rw here (rw free refl)
  | inr there ↦ rw (stand a (omega arith) (omega arith)) (first_is_missing standing (a + 1) n day (omega arith) (omega arith) (λ k ge below. stand k (omega arith) below) free)
]

there : {X : Type 0} (x : Option X) → is_some x ≡ true → (v : X) × (x ≡ Some v)
there (Some v) e = (v, refl)
there None e = cc

all_there : (standing : ℕ → Option Figures) (a n : ℕ) → Stand standing a n → (readings : List Figures) × (all_read (map standing (range_with_len a n)) ≡ Some readings)
all_there standing a zero stand = ([], refl)
all_there standing a (suc n) stand =
    let first = there (standing a) (stand a (omega arith) (omega arith)) in
    let rest = all_there standing (a + 1) n (λ day le lt. stand day (omega arith) (omega arith)) in
    (first.0 ∷ rest.0, ap (λ x. all_read (x ∷ map standing (range_with_len (a + 1) n))) first.1 ∙ ap (with_first first.0) rest.1)

month_fits : (first n : ℕ) → n ≤ 35 → first + n ≤ suc last_day → is_month first n ≡ true
month_fits first n short before = and_from _ _ (le-leb n 35 short) (le-leb (first + n) (suc last_day) before)

module _ (o : Opening) (law : LawfulOpening o) (l : Ledger) (month : ℕ) where
  -- a month of the calendar has its totals where each of its days stands
  pub totalled : month < length o.lengths → Stand l.standing (month_start o month) (month_length o month) → (t : MonthTotals) × (month_totals o l month ≡ Some t)
  totalled known stand =
      let from = o.first + month_start o month in
      let many = length-map-range_with_len l.standing (month_start o month) (month_length o month) in
      let long = All-get_or (λ days. (1 ≤ days) × (days ≤ 35)) o.lengths month 0 known law.lengths_within in
      let short : length (month_readings o l month) ≤ 35 = omega (arith, long.1) in
      let before : from + length (month_readings o l month) ≤ suc last_day = omega (arith, start_more o month known, sum_by-take-le (λ x. x) o.lengths (month + 1), law.last_on_calendar) in
      let all = all_there l.standing (month_start o month) (month_length o month) stand in
      (totals_of o.meaning.tariff (numbered from all.0), cond-true _ _ None (month_fits from (length (month_readings o l month)) short before) ∙ ap (option_map (λ readings. totals_of o.meaning.tariff (numbered from readings))) all.1)

  pub shown_right : (t : MonthTotals) → month_totals o l month ≡ Some t → ShownRight o l month
  shown_right t e =
      let k = split_of o.box t in
      let whole = gathered_whole o.meaning.tariff (o.first + month_start o month) (month_readings o l month) t e in
      let settle = numbers o.meaning o.tables o.box (get_or l.closed month no_prices) in
      record {
        numbers = settle t;
        shown = ap (option_map settle) e;
        splits = omega (arith, (smallest_within k.surplus k.usage (limit o.box)).0);
        deposits_smallest = refl;
        best = month_best o.meaning o.box t whole o.tables law.supply;
      }

-- the open month has its totals where no ground holds against closing it
pub open_totalled : (o : Opening) → LawfulOpening o → (l : Ledger) (p : MonthPrices) → month_ground o l p ≡ None → (t : MonthTotals) × (month_totals o l (length l.closed) ≡ Some t)
open_totalled o law l p e =
    let ready = completed o l p e in totalled o law l (length l.closed) ready.0 (none_missing l.standing _ _ ready.1)
