-- The open month of an account: its grounds, and its settlement.
use Rattle.std.proofs.Common.{◌≡◌, ℕ, ◌+◌, ◌-◌, ◌<◌, true, cond, leb, List, length, get_or, take, Some, None, IsSome, sum, Option, refl, sym, ap, ◌∙◌, arith, rules}
use Rattle.std.proofs.lemmas.List.Sums.{sum_by_more}
use Rattle.std.proofs.lemmas.Bool.{cond-true, cond-false, lt-leb}
use Rattle.std.specs.List.{range_with_len}
use Rattle.std.specs.Option.{option_map}
use Rattle.tariff.specs.Meaning.{Meaning, Lawful}
use Rattle.tariff.specs.Steps.{Step}
use Rattle.settlement.specs.Limits.{prices_within}
use Rattle.settlement.specs.Settling.{numbers}
use Rattle.settlement.specs.declared.prices.MonthPrices.{MonthPrices}
use Rattle.settlement.specs.Settlements.{shown}
use Rattle.settlement.specs.declared.settlement.Settlement.{Settlement}
use Rattle.account.specs.Ledger.{Opening, Ledger, first_missing, month_ground, month_numbers}
use Rattle.account.specs.Standing.{standing_in}
use Rattle.account.specs.View.{lengths_of, opening_of, ledger_of}
use Rattle.account.specs.declared.account.Account.{Account}
use Rattle.account.specs.declared.fault.AccountFault.TheVariants.{AllClosed, Price, Missing}
use Rattle.account.proofs.Calls.{closed_count, opening_lawful}
use Rattle.account.proofs.Complete.{open_totalled}
use Rattle.account.proofs.Held.{calendar_long}

module _ {S : Type 0} (whole : S → Meaning) (tables : S → List (List Step)) (a : Account S) (p : MonthPrices) where
  abbrev o : Opening
  o = opening_of whole tables a

  abbrev l : Ledger
  l = ledger_of a

  abbrev lengths : List ℕ
  lengths = lengths_of a.calendar

  abbrev n : ℕ
  n = length a.closed.items

  ground_at : month_ground o l p ≡ cond (leb a.calendar.months n) (Some AllClosed) (cond (prices_within p.fuel p.levy p.buy) (option_map Missing (first_missing l.standing (range_with_len (sum (take n lengths)) (get_or lengths n 0)))) (Some Price))
  ground_at = λ i. cond (leb (calendar_long a.calendar i) (closed_count a i)) (Some AllClosed) (cond (prices_within p.fuel p.levy p.buy) (option_map Missing (first_missing l.standing (range_with_len (sum (take (closed_count a i) lengths)) (get_or lengths (closed_count a i) 0)))) (Some Price))

  -- looking for a missing day of the open month is looking for the first ground, where the prices keep their limits
  pub looked : n < a.calendar.months → (month start end : ℕ) (found : Option ℕ) → month ≡ n → prices_within p.fuel p.levy p.buy ≡ true → start ≡ sum (take month lengths) → end ≡ sum (take (month + 1) lengths) → found ≡ first_missing (standing_in a.table.days) (range_with_len start (end - start)) → month_ground o l p ≡ option_map Missing found
  looked some_open month start end found is_open is begins ends look =
      let more = sum_by_more (λ n. n) lengths month 0 (omega (arith, calendar_long a.calendar)) in
      let long : end - start ≡ get_or lengths month 0 = omega arith in
      ground_at
      ∙ cond-false _ _ _ (lt-leb a.calendar.months n some_open)
      ∙ cond-true _ _ _ is
      ∙ sym (ap (option_map Missing) (look ∙ (λ i. first_missing l.standing (range_with_len ((begins ∙ ap (λ k. sum (take k lengths)) is_open) i) ((long ∙ ap (λ k. get_or lengths k 0) is_open) i)))))

  -- a month against which no ground holds has its numbers
  pub open_numbered : (month : ℕ) → month ≡ n → Lawful (whole a.supply) (tables a.supply) → month_ground o l p ≡ None → month_numbers o l month p ≡ None → ⊥
  open_numbered month is_open law none missing =
      let found = open_totalled o (opening_lawful whole tables a law) l p none in
      let some : month_numbers o l month p ≡ Some (numbers o.meaning o.tables o.box p found.0) =
      ap (λ k. month_numbers o l k p) (is_open ∙ sym (closed_count a)) ∙ ap (option_map (numbers o.meaning o.tables o.box p)) found.1 in
      cc

-- a settlement of numbers that are there is there
pub numbered : (r : Option Settlement) → (option_map shown r ≡ None → ⊥) → IsSome r
numbered None there = absurd (there refl)
numbered (Some s) there = search rules
