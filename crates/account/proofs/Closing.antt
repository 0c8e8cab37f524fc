-- What is closed stands: in the table as in the ledger, and still after one month more is closed.
use Rattle.std.proofs.Common.{◌≡◌, ℕ, zero, suc, ◌+◌, ◌<◌, ◌≤◌, true, List, [], map, length, get_or, take, replicate, is_some, Some, None, sum, Option, refl, ap, ◌∙◌, sym, length-take, inl, inr, arith}
use mathlib.Core.Path.{fun_ext}
use Rattle.std.proofs.lemmas.List.{get_or-map, get_or-take}
use Rattle.std.proofs.lemmas.List.Recursion.{and_at, and_from_places}
use Rattle.std.proofs.lemmas.List.Sums.{sum_by_more, sum_by-take-le}
use Rattle.std.proofs.lemmas.Bool.{cases_lt}
use Rattle.std.specs.Option.{option_map}
use Rattle.tariff.specs.Meaning.{Meaning, Lawful}
use Rattle.tariff.specs.Steps.{Step}
use Rattle.settlement.specs.Prices.{prices_of}
use Rattle.settlement.specs.Settling.{numbers}
use Rattle.settlement.specs.declared.prices.MonthPrices.{MonthPrices}
use Rattle.settlement.specs.Totals.{figures_of}
use Rattle.settlement.specs.declared.prices.Prices.{Prices}
use Rattle.settlement.specs.declared.reading.Reading.{Reading}
use Rattle.settlement.specs.Boxes.{box_lettered}
use Rattle.account.specs.Openings.{terms_ground}
use Rattle.account.specs.Replies.{Opened}
use Rattle.account.specs.Ledger.{Opening, Ledger, empty, no_prices, closed_days, month_length, month_ground, month_numbers}
use Rattle.account.specs.Standing.{standing_in, all_standing}
use Rattle.account.specs.View.{lengths_of, opening_of, ledger_of}
use Rattle.account.specs.declared.account.Account.{Account}
use Rattle.account.specs.declared.terms.Terms.{Terms}
use Rattle.account.proofs.Calls.{closed_count, closed_start, opening_lawful}
use Rattle.account.proofs.Complete.{none_missing}
use Rattle.account.proofs.Held.{calendar_long, calendar_days}
use Rattle.account.proofs.Unrefused.{completed}
use Rattle.account.proofs.Upholding.{Sound, closed_totalled, opened_right}

-- a reading stands where its figures do
some_read : (o : Option Reading) → is_some (option_map figures_of o) ≡ is_some o
some_read None = refl
some_read (Some r) = refl

stands : (n : ℕ) (days : List (Option Reading)) → all_standing (take n days) ≡ true → n ≤ length days → (day : ℕ) → day < n → is_some (standing_in days day) ≡ true
stands n days all wide day h =
    let there : day < length (take n days) = simp length-take (omega arith) in
    some_read (get_or days day None) ∙ rw (get_or-take n days day None h) at (and_at all_standing is_some refl (λ _ _. refl) (take n days) day None there all)

all_stand : (n : ℕ) (days : List (Option Reading)) → ((day : ℕ) → day < n → is_some (standing_in days day) ≡ true) → all_standing (take n days) ≡ true
all_stand n days each = and_from_places all_standing is_some refl (λ _ _. refl) (take n days) None (λ day there.
    let long = length-take n days in
    let below : day < n = omega arith in
    rw (get_or-take n days day None below) (sym (some_read (get_or days day None)) ∙ each day below))

module _ {S : Type 0} (whole : S → Meaning) (tables : S → List (List Step)) (a : Account S) where
  abbrev o : Opening
  o = opening_of whole tables a

  abbrev l : Ledger
  l = ledger_of a

  abbrev lengths : List ℕ
  lengths = lengths_of a.calendar

  abbrev n : ℕ
  n = length a.closed.items

  -- the closed days lie in the table
  closed_wide : sum (take n lengths) ≤ length a.table.days
  closed_wide = omega (arith, sum_by-take-le (λ n. n) lengths n, calendar_days a.calendar, a.table.wide)

  -- the closed days stand
  early_stand : (day : ℕ) → day < closed_days o l → is_some (l.standing day) ≡ true
  early_stand day early = stands (sum (take n lengths)) a.table.days a.complete closed_wide day (omega (arith, closed_start whole tables a))

  -- an account's ledger is as sound as one that calls led to
  pub sound : Sound o l
  sound = record {
    few_closed = omega (arith, closed_count a, calendar_long a.calendar, a.counted);
    all_stand = λ day from to. early_stand day (omega arith);
  }

  -- with the open month, against which no ground holds, all days up to its end stand
  pub one_more : (p : MonthPrices) → month_ground o l p ≡ None → all_standing (take (sum (take (n + 1) lengths)) a.table.days) ≡ true
  one_more p none =
      let done = completed o l p none in
      let month = none_missing l.standing (closed_days o l) (month_length o (length l.closed)) done.1 in
      let there : n < length lengths = omega (arith, done.0, closed_count a) in
      let more = sum_by_more (λ n. n) lengths n 0 there in
      let long = ap (λ k. get_or lengths k 0) (closed_count a) in
      all_stand _ a.table.days (λ day h. elim (cases_lt day (closed_days o l)) [
        | inl early ↦ early_stand day early
        | inr late ↦ month day late (omega (arith, closed_start whole tables a))
      ])

  -- a month against which no ground holds is one of the calendar
  pub still_open : (p : MonthPrices) → month_ground o l p ≡ None → n < a.calendar.months
  still_open p none = omega (arith, (completed o l p none).0, closed_count a, calendar_long a.calendar)

  -- every closed month has its numbers
  pub closed_numbered : (month : ℕ) (p : MonthPrices) → Lawful (whole a.supply) (tables a.supply) → month < n → month_numbers o l month p ≡ None → ⊥
  closed_numbered month p law lt none =
      let there : month < length l.closed = omega (arith, closed_count a) in
      let found = closed_totalled o (opening_lawful whole tables a law) l sound month there in
      let some : month_numbers o l month p ≡ Some (numbers o.meaning o.tables o.box p found.0) = ap (option_map (numbers o.meaning o.tables o.box p)) found.1 in
      cc

-- a closed month's prices in the ledger are those kept at its place
pub closed_prices : (closed : List Prices) (month : ℕ) (d : Prices) → month < length closed → get_or (map prices_of closed) month no_prices ≡ prices_of (get_or closed month d)
closed_prices closed month d there = get_or-map prices_of closed month d no_prices there

-- a table without readings, and nothing closed
none_stands : (n day : ℕ) → option_map figures_of (get_or (replicate n None) day None) ≡ None
none_stands zero day = refl
none_stands (suc n) zero = refl
none_stands (suc n) (suc day) = none_stands n day

pub empty_ledger : {S : Type 0} (a : Account S) → a.closed.items ≡ [] → a.table.days ≡ replicate 420 None → ledger_of a ≡ empty
empty_ledger a none blank =
    let standing_is : standing_in a.table.days ≡ (λ day. None) = ap standing_in blank ∙ fun_ext (none_stands 420) in
    let closed_is = ap (map prices_of) none in
    λ i. record { standing = standing_is i; closed = closed_is i }

-- an opening against which no ground holds makes an account that keeps the law
pub opens : {S : Type 0} (whole : S → Meaning) (tables : S → List (List Step)) (t : Terms) (a : Account S) → Lawful (whole a.supply) (tables a.supply) → box_lettered t.letter ≡ Some a.deposit_box → a.calendar.first ≡ t.first → lengths_of a.calendar ≡ t.lengths.now → terms_ground t ≡ None → a.closed.items ≡ [] → a.table.days ≡ replicate 420 None → Opened whole tables a.supply t a
opens whole tables t a law box begins months clear none blank =
    let lawful = opening_lawful whole tables a law in
    record {
      no_ground = clear;
      same_supply = refl;
      box_chosen = box;
      same_first = begins;
      same_lengths = months;
      lawful = lawful;
      starts_empty = empty_ledger a none blank;
      upheld = opened_right (opening_of whole tables a) lawful;
    }
