-- What is known of a call where no ground holds against it.
use Rattle.std.proofs.Common.{◌≡◌, ℕ, ◌<◌, ◌≤◌, Bool, true, false, cond, length, Some, None, Option, refl}
use Rattle.std.proofs.lemmas.Bool.{leb-false, ltb-false}
use Rattle.std.specs.List.{range_with_len}
use Rattle.std.specs.Option.{option_map}
use Rattle.settlement.specs.Readings.{reading_ground}
use Rattle.settlement.specs.declared.prices.MonthPrices.{MonthPrices}
use Rattle.settlement.specs.Totals.{Figures}
use Rattle.settlement.specs.declared.reading.ReadingFault.{ReadingFault}
use Rattle.settlement.specs.declared.reading.ReadingFault.TheVariants.{Length, Figure}
use Rattle.account.specs.Ledger.{Opening, Ledger, days, month_length, closed_days, strike, first_missing, figures_ground, entry_ground, month_ground, request_ground}
use Rattle.account.specs.declared.fault.AccountFault.{AccountFault}

-- a ground that holds if a test passes does not, nor one behind it
pub passed : {X : Type 0} (b : Bool) (x : X) (others : Option X) → cond b (Some x) others ≡ None → (b ≡ false) × (others ≡ None)
passed true x others e = cc
passed false x others e = (refl, e)

-- the same of a ground that holds if a test fails
pub needed : {X : Type 0} (b : Bool) (x : X) (others : Option X) → cond b others (Some x) ≡ None → (b ≡ true) × (others ≡ None)
needed true x others e = (refl, e)
needed false x others e = cc

right_figures : (day : ℕ) (fault : Option ReadingFault) (others : Option AccountFault) → figures_ground day fault others ≡ None → others ≡ None
right_figures day None others e = e
right_figures day (Some Length) others e = cc
right_figures day (Some Figure) others e = cc

none_mapped : {X Y : Type 0} (f : X → Y) (x : Option X) → option_map f x ≡ None → x ≡ None
none_mapped f None e = refl
none_mapped f (Some x) e = cc

pub entered : (o : Opening) (day : ℕ) (f : Figures) (others : Option AccountFault) → entry_ground o day f others ≡ None → (day < days o) × (others ≡ None)
entered o day f others e =
    let known = passed _ _ _ e in (leb-false (days o) day known.0, right_figures day (reading_ground f.used f.surplus) others known.1)

pub struck : (o : Opening) (l : Ledger) (day : ℕ) → request_ground o l (strike day) ≡ None → (day < days o) × (closed_days o l ≤ day)
struck o l day e =
    let known = passed _ _ _ e in
    let there = needed _ _ _ known.1 in
    (leb-false (days o) day known.0, ltb-false day (closed_days o l) (passed _ _ _ there.1).0)

pub completed : (o : Opening) (l : Ledger) (p : MonthPrices) → month_ground o l p ≡ None → (length l.closed < length o.lengths) × (first_missing l.standing (range_with_len (closed_days o l) (month_length o (length l.closed))) ≡ None)
completed o l p e =
    let more = passed _ _ _ e in
    (leb-false (length o.lengths) (length l.closed) more.0, none_mapped _ _ (needed _ _ _ more.1).1)
