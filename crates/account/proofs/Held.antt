-- What an account's table and calendar hold, as the ledger has it.
use Rattle.std.proofs.Common.{◌≡◌, ℕ, ◌+◌, ◌-◌, ◌<◌, ◌≤◌, true, ◌&&◌, eqb, leb, List, [], ◌∷◌, map, length, get_or, take, drop, set, is_some, IfSome, Some, None, sum, Option, sym, refl, ap, ◌∙◌, inl, inr, mul-le-mul_right, arith, length-take, get_or-set_other, get_or-set_same}
use mathlib.Core.Path.{fun_ext}
use Rattle.std.proofs.ByRecursion.{All-weaker, sum_by_le}
use Rattle.std.proofs.Math.ListN.{get_or-map}
use Rattle.std.proofs.Math.Seq.{take-set-lt}
use Rattle.std.proofs.lemmas.List.{length-map, drop-map, take-map, take-set-le}
use Rattle.std.proofs.lemmas.List.Recursion.{and_set}
use Rattle.std.proofs.lemmas.List.Sums.{sum_by_more, sum_by-take-le}
use Rattle.std.proofs.lemmas.Bool.{and_parts, leb-true, cases_eq, cases_lt, eq-eqb, ne_eqb, cond-true, cond-false}
use Rattle.std.specs.List.{range_with_len, AllByRecursion}
use Rattle.std.specs.Option.{option_map}
use Rattle.std.specs.Map.{update}
use Rattle.tariff.specs.Meaning.{TariffMeaning, Meaning}
use Rattle.tariff.specs.Steps.{Step}
use Rattle.settlement.specs.Rows.{used_rows}
use Rattle.settlement.specs.Settlements.{shown, SettleAnswer}
use Rattle.settlement.specs.Settling.{numbers}
use Rattle.settlement.specs.declared.prices.MonthPrices.{MonthPrices}
use Rattle.settlement.specs.Totals.{Figures, figures_of, all_figures, gathered, month_of}
use Rattle.settlement.specs.declared.deposit_box.DepositBox.{DepositBox}
use Rattle.settlement.specs.declared.settlement.Settlement.{Settlement}
use Rattle.settlement.specs.declared.totals.Totals.{Totals}
use Rattle.settlement.proofs.Months.{gathered_whole}
use Rattle.account.specs.Ledger.{Ledger, with_standing, month_start, month_length, month_totals}
use Rattle.settlement.specs.declared.reading.Reading.{Reading}
use Rattle.account.specs.Calendars.{lengths_right}
use Rattle.account.specs.Standing.{standing_in, all_standing}
use Rattle.account.specs.View.{lengths_of, opening_of, ledger_of}
use Rattle.account.specs.declared.account.Account.{Account}
use Rattle.account.specs.declared.calendar.Calendar.{Calendar}
use Rattle.account.proofs.MonthDays.{window, start_more}

-- months of the rule have 1 to 35 days
pub lengths_within : (lengths : List ℕ) → lengths_right lengths ≡ true → AllByRecursion (λ days. (1 ≤ days) × (days ≤ 35)) lengths
lengths_within [] e = tt
lengths_within (n ∷ lengths) e =
    let parts = and_parts (leb 1 n && leb n 35) (lengths_right lengths) e in
    let bounds = and_parts (leb 1 n) (leb n 35) parts.0 in
    ((leb-true 1 n bounds.0, leb-true n 35 bounds.1), lengths_within lengths parts.1)

-- so at most 12 of them have at most 420
pub days_low : (lengths : List ℕ) → lengths_right lengths ≡ true → length lengths ≤ 12 → sum lengths ≤ 420
days_low lengths right few =
    let each = sum_by_le (λ n. n) 35 lengths (All-weaker (λ n. (1 ≤ n) × (n ≤ 35)) (λ n. n ≤ 35) (λ n b. b.1) lengths (lengths_within lengths right)) in
    omega (arith, each, mul-le-mul_right 35 few)

standing_map : (days : List (Option Reading)) (day : ℕ) → standing_in days day ≡ get_or (all_figures days) day None
standing_map days day = sym (get_or-map (option_map figures_of) days day None)

-- the part of the table from s on has the readings standing on its days
pub part_standing : (days : List (Option Reading)) (s n : ℕ) → s + n ≤ length days → all_figures (take n (drop s days)) ≡ map (standing_in days) (range_with_len s n)
part_standing days s n h =
    let long : s + n ≤ length (all_figures days) = simp length-map h in
    sym (ap (λ f. map f (range_with_len s n)) (fun_ext (standing_map days)) ∙ window (all_figures days) None s n long ∙ ap (take n) (drop-map (option_map figures_of) s days) ∙ take-map (option_map figures_of) n (drop s days))

-- a place written is the reading standing on its day
pub put_standing : (days : List (Option Reading)) (day : ℕ) (reading : Option Reading) → day < length days → standing_in (set days day reading) ≡ update eqb (standing_in days) day (option_map figures_of reading)
put_standing days day reading there = fun_ext (λ other.
    elim (cases_eq other day) [
      | inl same ↦
          ap (λ d. option_map figures_of (get_or (set days day reading) d None)) same
          ∙ ap (option_map figures_of) (get_or-set_same days day reading None there)
          ∙ sym (cond-true _ _ _ (eq-eqb day other (sym same)))
      | inr apart ↦ ap (option_map figures_of) (get_or-set_other days day other reading None apart) ∙ sym (cond-false _ _ _ (ne_eqb day other (λ e. apart (sym e))))
    ])

-- totals of a tariff have as many classes
pub classes_of : (m : TariffMeaning) (first : ℕ) (days : List (Option Figures)) (t : Totals) → Some (month_of t) ≡ gathered m first days → t.classes ≡ m.classes
classes_of m first days t e =
    let whole = gathered_whole m first days (month_of t) (sym e) in
    let long : length (take t.classes t.by_class) ≡ t.classes = simp length-take (omega (arith, t.wide, t.few)) in
    omega (arith, whole.0)

-- a settlement of totals of the right number of classes is there, and has the numbers defined
pub settled_fits : (n : ℕ) (m : Meaning) (tables : List (List Step)) (box : DepositBox) (p : MonthPrices) (t : Totals) (r : Option Settlement) → t.classes ≡ n → SettleAnswer t.classes n m tables box p (month_of t) r → (option_map shown r ≡ Some (numbers m tables box p (month_of t))) × IfSome r (λ s. s.credit_lines ≤ used_rows (shown s).credit.rows)
settled_fits n m tables box p t (Some s) same a = (ap Some a.1.all_numbers, a.1.lines)
settled_fits n m tables box p t None same a = absurd (a same)

pub calendar_long : (c : Calendar) → length (lengths_of c) ≡ c.months
calendar_long c = simp length-take (omega (arith, c.few, c.wide))

pub calendar_days : (c : Calendar) → sum (lengths_of c) ≤ 420
calendar_days c = days_low (lengths_of c) c.right (omega (arith, calendar_long c, c.few))

-- where a month starts and ends in the table
pub month_place : (c : Calendar) (month start end : ℕ) → month < c.months → start ≡ sum (take month (lengths_of c)) → end ≡ sum (take (month + 1) (lengths_of c)) → (start ≤ end) × (end ≤ sum (lengths_of c))
month_place c month start end there begins ends =
    let more = sum_by_more (λ n. n) (lengths_of c) month 0 (omega (arith, calendar_long c)) in
    (omega arith, omega (arith, sum_by-take-le (λ n. n) (lengths_of c) (month + 1)))

-- the totals gathered from a month's part of an account's table are the month's in the ledger
pub month_gathered : {S : Type 0} (whole : S → Meaning) (tables : S → List (List Step)) (a : Account S) (m : TariffMeaning) (month start end number : ℕ) (part : List (Option Reading)) → (whole a.supply).tariff ≡ m → month < a.calendar.months → start ≡ month_start (opening_of whole tables a) month → end ≡ month_start (opening_of whole tables a) (month + 1) → number ≡ a.calendar.first + start → part ≡ take (end - start) (drop start a.table.days) → gathered m number (all_figures part) ≡ month_totals (opening_of whole tables a) (ledger_of a) month
month_gathered whole tables a m month start end number part same there begins ends numbered parted =
    let o = opening_of whole tables a in
    let days = a.table.days in
    let more = start_more o month (omega (arith, calendar_long a.calendar)) in
    let long : end - start ≡ month_length o month = omega (arith, more) in
    let within : month_start o month + month_length o month ≤ length days =
    omega (arith, more, sum_by-take-le (λ n. n) o.lengths (month + 1), calendar_days a.calendar, a.table.wide) in
    let figures : all_figures part ≡ map (standing_in days) (range_with_len (month_start o month) (month_length o month)) =
    ap all_figures (parted ∙ (λ i. take (long i) (drop (begins i) days))) ∙ part_standing days (month_start o month) (month_length o month) within in
    λ i. gathered (sym same i) ((numbered ∙ ap (λ n. o.first + n) begins) i) (figures i)

-- the ledger of a table in which a place was written
pub written : (closed : List MonthPrices) (days next : List (Option Reading)) (day : ℕ) (reading : Option Reading) → next ≡ set days day reading → day < length days → ◌≡◌ {A = Ledger} (record { standing = standing_in next; closed = closed }) (with_standing (record { standing = standing_in days; closed = closed }) day (option_map figures_of reading))
written closed days next day reading is there =
    let standing_is = ap standing_in is ∙ put_standing days day reading there in
    λ i. record { standing = standing_is i; closed = closed }

-- the same of a reading, by its figures
pub entered : (closed : List MonthPrices) (days next : List (Option Reading)) (day : ℕ) (reading : Reading) (f : Figures) → figures_of reading ≡ f → next ≡ set days day (Some reading) → day < length days → ◌≡◌ {A = Ledger} (record { standing = standing_in next; closed = closed }) (with_standing (record { standing = standing_in days; closed = closed }) day (Some f))
entered closed days next day reading f read is there =
    written closed days next day (Some reading) is there ∙ ap (λ (x : Figures). with_standing (record { standing = standing_in days; closed = closed }) day (Some x)) read

-- a reading written anywhere leaves the first days standing
pub still_standing : (n : ℕ) (days next : List (Option Reading)) (day : ℕ) (reading : Reading) → next ≡ set days day (Some reading) → all_standing (take n days) ≡ true → all_standing (take n next) ≡ true
still_standing n days next day reading is all =
    ap (λ table. all_standing (take n table)) is
    ∙ elim (cases_lt day n) [
      | inl before ↦ rw (take-set-lt n days day (Some reading) before) (and_set all_standing is_some refl (λ _ _. refl) (take n days) day (Some reading) refl all)
      | inr behind ↦ rw (take-set-le n days day (Some reading) behind) all
    ]
