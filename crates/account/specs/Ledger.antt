-- The ledger: the plain book that an account is held to. It is fed what the opening took and what each call is handed.
use Rattle.std.specs.Prelude.{◌≡◌, ℕ, suc, ◌+◌, ◌-◌, ◌≤◌, cond, List, [], ◌∷◌, ◌++◌, map, length, take, ℤ, pos, is_some, Some, None, sum, Option, nat_eq, nat_le, nat_lt, slice_index, slice_index_or}
use Rattle.std.specs.List.{range_with_len, AllByRecursion}
use Rattle.std.specs.Option.{option_map}
use Rattle.std.specs.Map.{update}
use Rattle.tariff.specs.Calendar.{last_day}
use Rattle.tariff.specs.Meaning.{Meaning, Lawful}
use Rattle.tariff.specs.Steps.{Step}
use Rattle.settlement.specs.Limits.{prices_within}
use Rattle.settlement.specs.Readings.{reading_ground}
use Rattle.settlement.specs.Settling.{Numbers, numbers}
use Rattle.settlement.specs.declared.prices.MonthPrices.{MonthPrices}
use Rattle.settlement.specs.Totals.{Figures, MonthTotals, gathered}
use Rattle.settlement.specs.declared.deposit_box.DepositBox.{DepositBox}
use Rattle.settlement.specs.declared.reading.ReadingFault.{ReadingFault}
use Rattle.settlement.specs.declared.reading.ReadingFault.TheVariants.{Length as Short, Figure as High}
use Rattle.account.specs.declared.fault.AccountFault.{AccountFault}
use Rattle.account.specs.declared.fault.AccountFault.TheVariants.{Beyond, Figures as FigureCount, Figure, Posted, NotPosted, Closed, AllClosed, Price, Missing, NotClosed}

-- what an opening took: the supply, by its meaning and its tables of steps, the box, the first day's number, and the
-- length of each month
pub record Opening : Type 0 where
  pub meaning : Meaning
  pub tables : List (List Step)
  pub box : DepositBox
  pub first : ℕ
  pub lengths : List ℕ

pub record LawfulOpening (o : Opening) : Type 0 where
  pub supply : Lawful o.meaning o.tables
  pub some_month : 1 ≤ length o.lengths
  pub few_months : length o.lengths ≤ 12
  pub lengths_within : AllByRecursion (λ days. (1 ≤ days) × (days ≤ 35)) o.lengths
  pub last_on_calendar : o.first + sum o.lengths ≤ suc last_day

-- alike in all that they took, supplies in meaning
pub record OpenedAlike (o p : Opening) : Type 0 where
  pub same_meaning : o.meaning ≡ p.meaning
  pub same_box : o.box ≡ p.box
  pub same_first : o.first ≡ p.first
  pub same_lengths : o.lengths ≡ p.lengths

-- the readings standing, by account day, and the prices of the closed months, the oldest first
pub record Ledger : Type 0 where
  pub standing : ℕ → Option Figures
  pub closed : List MonthPrices

abbrev pub empty : Ledger
empty = record { standing = λ day. None; closed = [] }

-- account days count from 0, months from 0
abbrev pub days : Opening → ℕ
days o = sum o.lengths

abbrev pub month_start : Opening → ℕ → ℕ
month_start o month = sum (take month o.lengths)

abbrev pub month_length : Opening → ℕ → ℕ
month_length o month = slice_index o.lengths month

-- the month of a day
abbrev pub month_in : List ℕ → ℕ → ℕ
month_in [] day = 0
month_in (n ∷ lengths) day = cond (nat_lt day n) 0 (suc (month_in lengths (day - n)))

abbrev pub month_of_day : Opening → ℕ → ℕ
month_of_day o day = month_in o.lengths day

-- the days of the closed months are those before this one
abbrev pub closed_days : Opening → Ledger → ℕ
closed_days o l = month_start o (length l.closed)

-- a month's standing readings, and its numbers at given prices, where none of its days is missing
abbrev pub month_readings : Opening → Ledger → ℕ → List (Option Figures)
month_readings o l month = map l.standing (range_with_len (month_start o month) (month_length o month))

abbrev pub month_totals : Opening → Ledger → ℕ → Option MonthTotals
month_totals o l month = gathered o.meaning.tariff (o.first + month_start o month) (month_readings o l month)

abbrev pub month_numbers : Opening → Ledger → ℕ → MonthPrices → Option Numbers
month_numbers o l month prices = option_map (numbers o.meaning o.tables o.box prices) (month_totals o l month)

abbrev pub no_prices : MonthPrices
no_prices = record { fuel = pos 0; levy = 0; buy = 0 }

-- a closed month at its own prices
abbrev pub closed_numbers : Opening → Ledger → ℕ → Option Numbers
closed_numbers o l month = month_numbers o l month (slice_index_or l.closed month no_prices)

abbrev pub net_in : Option Numbers → ℤ
net_in None = pos 0
net_in (Some n) = n.charges.net

-- what a call is handed
pub data Request : Type 0 where
  post correct : ℕ → Figures → Request
  strike : ℕ → Request
  draft close : MonthPrices → Request
  show : ℕ → Request

-- the first day from `day` on, of so many, that has no reading
abbrev pub first_missing : (ℕ → Option Figures) → List ℕ → Option ℕ
first_missing standing [] = None
first_missing standing (day ∷ later) = cond (is_some (standing day)) (first_missing standing later) (Some day)

abbrev pub figures_ground : ℕ → Option ReadingFault → Option AccountFault → Option AccountFault
figures_ground day None otherwise = otherwise
figures_ground day (Some Short) otherwise = Some FigureCount
figures_ground day (Some High) otherwise = Some (Figure day)

-- the grounds that posting and correcting share, and then another
abbrev pub entry_ground : Opening → ℕ → Figures → Option AccountFault → Option AccountFault
entry_ground o day f otherwise =
    cond (nat_le (days o) day) (Some (Beyond day)) (figures_ground day (reading_ground f.used f.surplus) otherwise)

-- the grounds that drafting and closing share
abbrev pub month_ground : Opening → Ledger → MonthPrices → Option AccountFault
month_ground o l p =
    cond (nat_le (length o.lengths) (length l.closed)) (Some AllClosed)
    (cond (prices_within p.fuel p.levy p.buy)
    (option_map Missing (first_missing l.standing (range_with_len (closed_days o l) (month_length o (length l.closed)))))
    (Some Price))

-- the first ground listed that holds against a call
abbrev pub request_ground : Opening → Ledger → Request → Option AccountFault
request_ground o l (post day f) = entry_ground o day f (cond (is_some (l.standing day)) (Some (Posted day)) None)
request_ground o l (correct day f) = entry_ground o day f (cond (is_some (l.standing day)) None (Some (NotPosted day)))
request_ground o l (strike day) =
    cond (nat_le (days o) day) (Some (Beyond day))
    (cond (is_some (l.standing day)) (cond (nat_lt day (closed_days o l)) (Some (Closed day)) None) (Some (NotPosted day)))
request_ground o l (draft p) = month_ground o l p
request_ground o l (close p) = month_ground o l p
request_ground o l (show month) = cond (nat_lt month (length l.closed)) None (Some NotClosed)

-- the ledger with another reading, or none, standing on a day
abbrev pub with_standing : Ledger → ℕ → Option Figures → Ledger
with_standing l day reading = record { standing = update nat_eq l.standing day reading; closed = l.closed }

-- what a call against which no ground holds does to the ledger
abbrev pub done : Ledger → Request → Ledger
done l (post day f) = with_standing l day (Some f)
done l (correct day f) = with_standing l day (Some f)
done l (strike day) = with_standing l day None
done l (draft p) = l
done l (close p) = record { standing = l.standing; closed = l.closed ++ p ∷ [] }
done l (show month) = l

-- the ledger after a call: unchanged where a ground holds
abbrev pub unless_refused : Option AccountFault → Ledger → Ledger → Ledger
unless_refused None l next = next
unless_refused (Some fault) l next = l

abbrev pub after : Opening → Ledger → Request → Ledger
after o l r = unless_refused (request_ground o l r) l (done l r)
