-- The nets of the closed months, and how a change of one reading and a closing change them.
use Rattle.std.proofs.Common.{◌≡◌, ℕ, zero, suc, ◌+◌, ◌<◌, ◌≤◌, cond, ltb, List, [], ◌∷◌, ◌++◌, map, length, get_or, ℤ, pos, ◌+ℤ◌, ◌-ℤ◌, Option, refl, ap, ◌∙◌, inl, inr, arith}
use Rattle.std.proofs.lemmas.List.FromFn.{map-range_with_len_more}
use Rattle.std.proofs.lemmas.List.{get_or_append_left, get_or_push, length_push}
use Rattle.std.proofs.lemmas.Map.{update_apart}
use Rattle.std.proofs.lemmas.Int.{ints}
use Rattle.std.proofs.lemmas.Bool.{cases_eq, cases_lt, lt-ltb, le-ltb}
use Rattle.std.specs.List.{range_with_len}
use Rattle.std.specs.Option.{option_map}
use Rattle.settlement.specs.Settling.{numbers}
use Rattle.settlement.specs.declared.prices.MonthPrices.{MonthPrices}
use Rattle.settlement.specs.Totals.{Figures, gathered}
use Rattle.account.specs.History.{int_sum, closed_nets}
use Rattle.account.specs.Ledger.{Opening, Ledger, days, month_start, month_length, month_of_day, closed_days, month_readings, month_numbers, closed_numbers, net_in, no_prices, with_standing}
use Rattle.account.proofs.MonthDays.{month_known, one_month, before_month}

pub map_same : {X : Type 0} (f g : ℕ → X) (a n : ℕ) → ((k : ℕ) → a ≤ k → k < a + n → f k ≡ g k) → map f (range_with_len a n) ≡ map g (range_with_len a n)
map_same f g a zero same = refl
map_same f g a (suc n) same =
    let here = same a (omega arith) (omega arith) in
    let rest = map_same f g (a + 1) n (λ k le lt. same k (omega arith) (omega arith)) in
    λ i. here i ∷ rest i

pub int_sum-push : (xs : List ℤ) (y : ℤ) → int_sum (xs ++ y ∷ []) ≡ int_sum xs +ℤ y
int_sum-push [] y = omega (arith, ints)
int_sum-push (x ∷ xs) y = let others = int_sum-push xs y in omega (arith, ints)

-- a sum changes by the change of the one number that changes
changed_at : (f g : ℕ → ℤ) (a n k : ℕ) → a ≤ k → k < a + n → ((j : ℕ) → a ≤ j → j < a + n → (j ≡ k → ⊥) → g j ≡ f j) → int_sum (map g (range_with_len a n)) ≡ int_sum (map f (range_with_len a n)) +ℤ (g k -ℤ f k)
changed_at f g a zero k le lt same = absurd (omega arith)
changed_at f g a (suc n) k le lt same = elim (cases_eq a k) [
  | inl here ↦
      let others = ap int_sum (map_same g f (a + 1) n (λ j ge below. same j (omega arith) (omega arith) (λ e. omega arith))) in
      let new = ap g here in
      let old = ap f here in
      omega (arith, ints)
  | inr there ↦
      let first = same a (omega arith) (omega arith) there in
      let others = changed_at f g (a + 1) n k (omega arith) (omega arith) (λ j ge below. same j (omega arith) (omega arith)) in
      omega (arith, ints)
]

-- a month's numbers follow from its own readings
pub same_readings : (o : Opening) (l k : Ledger) (month : ℕ) → ((day : ℕ) → month_start o month ≤ day → day < month_start o month + month_length o month → k.standing day ≡ l.standing day) → month_readings o k month ≡ month_readings o l month
same_readings o l k month same = map_same k.standing l.standing (month_start o month) (month_length o month) same

-- the net of a closed month
abbrev pub net : Opening → Ledger → ℕ → ℤ
net o l month = net_in (closed_numbers o l month)

-- a reading changed on a day of the calendar, where no more months are closed than there are
module _ (o : Opening) (l : Ledger) (day : ℕ) (reading : Option Figures) (few : length l.closed ≤ length o.lengths) (within : day < days o) where
  abbrev next : Ledger
  next = with_standing l day reading

  abbrev own : ℕ
  own = month_of_day o day

  -- other months keep their nets
  net_apart : (month : ℕ) → month < length l.closed → (month ≡ own → ⊥) → net o next month ≡ net o l month
  net_apart month lt apart =
      let at = month_known o.lengths day within in
      ap (λ readings. net_in (option_map (numbers o.meaning o.tables o.box (get_or l.closed month no_prices)) (gathered o.meaning.tariff (o.first + month_start o month) readings)))
      (same_readings o l next month (λ k from to. update_apart l.standing day reading k (λ e.
      apart (one_month o day month own (omega arith, omega arith, omega arith) at))))

  pub nets_changed : closed_nets o next ≡ closed_nets o l +ℤ cond (ltb day (closed_days o l)) (net o next own -ℤ net o l own) (pos 0)
  nets_changed = elim (cases_lt day (closed_days o l)) [
    | inl lt ↦
        let mine = (before_month o day (length l.closed) within few).0 lt in
        rw (lt-ltb day (closed_days o l) lt) (changed_at (net o l) (net o next) 0 (length l.closed) own (omega arith) (omega arith) (λ month ge below apart. net_apart month (omega arith) apart))
    | inr le ↦
        let same = ap int_sum (map_same (net o next) (net o l) 0 (length l.closed) (λ month ge below. net_apart month (omega arith) (λ e. omega (arith, (before_month o day (length l.closed) within few).1 (omega arith))))) in
        rw (le-ltb day (closed_days o l) le) (omega (arith, ints))
  ]

-- closing adds the net of the month, and leaves the months before it their readings and prices
pub nets_closed : (o : Opening) (l : Ledger) (p : MonthPrices) → closed_nets o (record { standing = l.standing; closed = l.closed ++ p ∷ [] }) ≡ closed_nets o l +ℤ net_in (month_numbers o l (length l.closed) p)
nets_closed o l p =
    let n = length l.closed in
    let longer = l.closed ++ p ∷ [] in
    let at : ℕ → MonthPrices → ℤ = λ month prices. net_in (month_numbers o l month prices) in
    let after : ℕ → ℤ = λ month. at month (get_or longer month no_prices) in
    ap (λ many. int_sum (map after (range_with_len 0 many))) (length_push l.closed p)
    ∙ ap int_sum (map-range_with_len_more after 0 n n (omega arith))
    ∙ int_sum-push (map after (range_with_len 0 n)) (after n)
    ∙ ap (λ s. s +ℤ after n) (ap int_sum (map_same after (net o l) 0 n (λ month ge lt. ap (at month) (get_or_append_left l.closed (p ∷ []) no_prices month (omega arith)))))
    ∙ ap (λ x. closed_nets o l +ℤ x) (ap (at n) (get_or_push l.closed p no_prices n refl))
