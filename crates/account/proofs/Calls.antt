-- A call keeps the law once its ground and its answer are known.
use Rattle.std.proofs.Common.{◌≡◌, ℕ, ◌<◌, ◌≤◌, List, length, take, Some, None, Err, sum, Option, Result, sym, refl, ap, ◌∙◌, subst, arith}
use Rattle.std.proofs.lemmas.List.{length-map}
use Rattle.std.proofs.lemmas.Result.{err_from_is_err_and}
use Rattle.std.specs.Result.{IsErrAnd}
use Rattle.tariff.specs.Meaning.{Meaning, Lawful}
use Rattle.tariff.specs.Steps.{Step}
use Rattle.settlement.specs.Prices.{prices_of}
use Rattle.settlement.specs.declared.deposit_box.DepositBox.{DepositBox}
use Rattle.account.specs.History.{Reply, refused, Accepted, Answered, Kept}
use Rattle.account.specs.Ledger.{Opening, LawfulOpening, Ledger, Request, month_in, closed_days, request_ground, done, unless_refused}
use Rattle.account.specs.Replies.{reply_of, Stays, Keeps}
use Rattle.account.specs.View.{lengths_of, opening_of, ledger_of}
use Rattle.account.specs.declared.account.Account.{Account}
use Rattle.account.specs.declared.calendar.Calendar.{Calendar}
use Rattle.account.specs.declared.fault.AccountFault.{AccountFault}
use Rattle.account.proofs.Held.{lengths_within, calendar_long, calendar_days}
use Rattle.account.proofs.MonthDays.{before_month}
use Rattle.account.proofs.Upholding.{kept}

-- as many months are closed in the ledger
pub closed_count : {S : Type 0} (a : Account S) → length (ledger_of a).closed ≡ length a.closed.items
closed_count a = length-map a.closed.items prices_of

module _ {S : Type 0} (whole : S → Meaning) (tables : S → List (List Step)) (a : Account S) where
  -- an account's opening is lawful where its supply is
  pub opening_lawful : Lawful (whole a.supply) (tables a.supply) → LawfulOpening (opening_of whole tables a)
  opening_lawful law = record {
    supply = law;
    some_month = omega (arith, calendar_long a.calendar, a.calendar.some);
    few_months = omega (arith, calendar_long a.calendar, a.calendar.few);
    lengths_within = lengths_within (lengths_of a.calendar) a.calendar.right;
    last_on_calendar = a.calendar.ends;
  }

  -- the closed days are those before the start of the open month
  pub closed_start : closed_days (opening_of whole tables a) (ledger_of a) ≡ sum (take (length a.closed.items) (lengths_of a.calendar))
  closed_start = ap (λ n. sum (take n (lengths_of a.calendar))) (closed_count a)

  -- the month of a closed day is closed
  pub month_closed : (day month : ℕ) → day < sum (lengths_of a.calendar) → day < closed_days (opening_of whole tables a) (ledger_of a) → month ≡ month_in (lengths_of a.calendar) day → month < length a.closed.items
  month_closed day month inside early is =
      let few : length (ledger_of a).closed ≤ length (lengths_of a.calendar) = omega (arith, closed_count a, calendar_long a.calendar, a.counted) in
      omega (arith, (before_month (opening_of whole tables a) day (length (ledger_of a).closed) inside few).0 early, closed_count a)

-- a day of the calendar has a place in the table
pub has_place : {S : Type 0} (a : Account S) (day : ℕ) → day < sum (lengths_of a.calendar) → day < 420
has_place a day h = omega (arith, calendar_days a.calendar)

module _ (o : Opening) (lawful : LawfulOpening o) (l : Ledger) (r : Request) where
  pub refused_kept : (fault : AccountFault) (next : Ledger) → request_ground o l r ≡ Some fault → next ≡ l → Kept o l r (refused fault) next
  refused_kept fault next is same =
      kept o lawful l r (refused fault) next
      (subst (λ (g : Option AccountFault). Answered g o l r (refused fault)) (sym is) refl)
      (same ∙ sym (ap (λ (g : Option AccountFault). unless_refused g l (done l r)) is))

  pub accepted_kept : (reply : Reply) (next : Ledger) → request_ground o l r ≡ None → Accepted o l r reply → next ≡ done l r → Kept o l r reply next
  accepted_kept reply next is answer leads =
      kept o lawful l r reply next
      (subst (λ (g : Option AccountFault). Answered g o l r reply) (sym is) answer)
      (leads ∙ sym (ap (λ (g : Option AccountFault). unless_refused g l (done l r)) is))

-- what stays of an account that calls are made on
abbrev pub fixed : {S : Type 0} → Account S → S × DepositBox × Calendar
fixed a = (a.supply, a.deposit_box, a.calendar)

-- the same of an account, whose supply, box and calendar stay
module _ {S : Type 0} (whole : S → Meaning) (tables : S → List (List Step)) (a b : Account S) (r : Request) (law : Lawful (whole a.supply) (tables a.supply)) (same : fixed b ≡ fixed a) where
  abbrev o : Opening
  o = opening_of whole tables a

  stays : Stays a b
  stays = record { same_supply = λ i. (same i).0; same_box = λ i. (same i).1; same_calendar = λ i. (same i).2 }

  pub refuses : (fault : AccountFault) → request_ground o (ledger_of a) r ≡ Some fault → ledger_of b ≡ ledger_of a → Keeps whole tables a b r (refused fault)
  refuses fault is kept = record { law = refused_kept o (opening_lawful whole tables a law) (ledger_of a) r fault (ledger_of b) is kept; opening = stays }

  pub accepts : (reply : Reply) → request_ground o (ledger_of a) r ≡ None → Accepted o (ledger_of a) r reply → ledger_of b ≡ done (ledger_of a) r → Keeps whole tables a b r reply
  accepts reply is answer leads = record { law = accepted_kept o (opening_lawful whole tables a law) (ledger_of a) r reply (ledger_of b) is answer leads; opening = stays }

  -- a refusal handed on, whatever the reply to a value is
  pub refuses_on : {T : Type 0} (value_reply : T → Reply) (result : Result T AccountFault) (fault : AccountFault) → IsErrAnd result (λ e. e ≡ fault) → request_ground o (ledger_of a) r ≡ Some fault → ledger_of b ≡ ledger_of a → Keeps whole tables a b r (reply_of value_reply result)
  refuses_on value_reply result fault told is kept =
      let was = err_from_is_err_and result told in
      subst (λ x. Keeps whole tables a b r (reply_of value_reply x)) (sym (was.1 ∙ ap Err was.2)) (refuses fault is kept)
