-- What the code's answers say, and what a call leaves as it was.
use Rattle.std.specs.Prelude.{◌≡◌, ℕ, ◌<◌, cond, List, [], length, Some, None, Ok, Err, Option, Result, nat_le}
use Rattle.tariff.specs.Meaning.{Meaning}
use Rattle.tariff.specs.Steps.{Step}
use Rattle.settlement.specs.Readings.{reading_ground}
use Rattle.settlement.specs.Prices.{prices_of}
use Rattle.settlement.specs.Settlements.{shown}
use Rattle.settlement.specs.declared.prices.MonthPrices.{MonthPrices}
use Rattle.settlement.specs.Totals.{Figures, figures_of}
use Rattle.settlement.specs.declared.prices.Prices.{Prices}
use Rattle.settlement.specs.declared.reading.Reading.{Reading}
use Rattle.settlement.specs.declared.settlement.Settlement.{Settlement}
use Rattle.account.specs.History.{Reply, refused, settled, Settles, Kept, Upheld}
use Rattle.account.specs.Ledger.{Opening, LawfulOpening, Ledger, empty, Request, figures_ground, month_ground, month_numbers}
use Rattle.settlement.specs.Boxes.{box_lettered}
use Rattle.account.specs.Openings.{terms_ground}
use Rattle.account.specs.View.{lengths_of, opening_of, ledger_of}
use Rattle.account.specs.declared.account.Account.{Account}
use Rattle.account.specs.declared.fault.AccountFault.{AccountFault}
use Rattle.account.specs.declared.terms.Terms.{Terms}
use Rattle.account.specs.declared.fault.AccountFault.TheVariants.{Beyond}

-- the reply to a result: its refusal, or what the reply to its value is
abbrev pub reply_of : {T : Type 0} → (T → Reply) → Result T AccountFault → Reply
reply_of value_reply (Ok x) = value_reply x
reply_of value_reply (Err fault) = refused fault

abbrev pub settlement_reply : Settlement → Reply
settlement_reply s = settled (shown s) s.credit_lines

-- the supply, the box and the calendar that an account was opened with
pub record Stays {S : Type 0} (a b : Account S) : Type 0 where
  pub same_supply : b.supply ≡ a.supply
  pub same_box : b.deposit_box ≡ a.deposit_box
  pub same_calendar : b.calendar ≡ a.calendar

-- A call on an account a, over supplies of this meaning and these tables, that leads to the account b: the answer is the
-- right one, the ledger is the one after the call, and whatever history led here, the law holds with this call added.
pub record Keeps {S : Type 0} (whole : S → Meaning) (tables : S → List (List Step)) (a b : Account S) (r : Request) (reply : Reply) : Type 0 where
  pub law : Kept (opening_of whole tables a) (ledger_of a) r reply (ledger_of b)
  pub opening : Stays a b

-- figures handed in for a day, checked against the calendar and the limits, before any other ground
abbrev pub Entered : ℕ → ℕ → Figures → Result Reading AccountFault → Type 0
Entered days day f (Ok reading) = (figures_of reading ≡ f) × (day < days) × ((others : Option AccountFault) → cond (nat_le days day) (Some (Beyond day)) (figures_ground day (reading_ground f.used f.surplus) others) ≡ others)
Entered days day f (Err fault) = (others : Option AccountFault) → cond (nat_le days day) (Some (Beyond day)) (figures_ground day (reading_ground f.used f.surplus) others) ≡ Some fault

-- the open month at given prices: refused on the first ground that holds, else settled, with those prices kept
abbrev pub OpenMonth : Opening → Ledger → MonthPrices → Result (Prices × Settlement) AccountFault → Type 0
OpenMonth o l p (Ok found) = (month_ground o l p ≡ None) × (prices_of found.0 ≡ p) × Settles (month_numbers o l (length l.closed) p) (settlement_reply found.1)
OpenMonth o l p (Err fault) = month_ground o l p ≡ Some fault

-- what an opening that is not refused makes: an account of what it was handed, with an empty ledger, and the law
pub record Opened {S : Type 0} (whole : S → Meaning) (tables : S → List (List Step)) (supply : S) (t : Terms) (a : Account S) : Type 0 where
  pub no_ground : terms_ground t ≡ None
  pub same_supply : a.supply ≡ supply
  pub box_chosen : box_lettered t.letter ≡ Some a.deposit_box
  pub same_first : a.calendar.first ≡ t.first
  pub same_lengths : lengths_of a.calendar ≡ t.lengths.now
  pub lawful : LawfulOpening (opening_of whole tables a)
  pub starts_empty : ledger_of a ≡ empty
  pub upheld : Upheld (opening_of whole tables a) [] empty
