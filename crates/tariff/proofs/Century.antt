-- The code's arithmetic on day numbers agrees with the civil calendar on every day of the century:
-- one test walks from the first day to the last, and a lemma turns it into the rule at each day.
use Rattle.std.proofs.Common.{◌≡◌, ℕ, zero, suc, ◌+◌, ◌-◌, ◌%◌, ◌<◌, ◌≤◌, Bool, true, false, cond, not, ◌&&◌, ltb, leb, sym, refl, ◌∙◌, subst, le_of_suc-le-suc, not-suc-le-zero, add-zero, add-suc, suc-add, zero-add, arith}
use Rattle.std.proofs.lemmas.Bool.{and_parts, both_ways}
use Rattle.tariff.specs.Calendar.{Date, date, tomorrow, summer, weekend}

abbrev common_summer : ℕ → Bool
common_summer day = leb 181 day && ltb day 273

abbrev pub summer_number : ℕ → Bool
summer_number n =
    cond (ltb (n % 1461) 366) (ltb 181 (n % 1461) && leb (n % 1461) 273) (common_summer ((n % 1461 - 366) % 365))

abbrev pub weekend_number : ℕ → Bool
weekend_number n = ltb (n % 7) 2

abbrev same : Bool → Bool → Bool
same true b = b
same false b = not b

same_eq : (a b : Bool) → same a b ≡ true → a ≡ b
same_eq true b e = sym e
same_eq false true e = e
same_eq false false e = refl

abbrev agree : Date → ℕ → Bool
agree d n = same (summer_number n) (summer d) && same (weekend_number n) (weekend d.weekday)

-- the k days from the date d of day n on
abbrev walk : ℕ → Date → ℕ → Bool
walk zero d n = true
walk (suc k) d n = cond (agree d n) (walk k (tomorrow d) (suc n)) false

century : walk 36525 (date 0) 0 ≡ true
unfolding date
century = refl

first : (b w : Bool) → cond b w false ≡ true → b ≡ true
first true w e = refl
first false w e = e

later : (b w : Bool) → cond b w false ≡ true → w ≡ true
later true w e = e
later false w e = absurd (both_ways true (sym e) refl)

at : (k n i : ℕ) → walk k (date n) n ≡ true → i < k → agree (date (n + i)) (n + i) ≡ true
unfolding date
at zero n i e h = absurd (not-suc-le-zero h)
at (suc k) n zero e h = rw add-zero (first (agree (date n) n) (walk k (tomorrow (date n)) (suc n)) e)
at (suc k) n (suc i) e h =
    subst (λ (m : ℕ). agree (date m) m ≡ true) (suc-add n i ∙ sym (add-suc n i))
    (at k (suc n) i (later (agree (date n) n) (walk k (tomorrow (date n)) (suc n)) e) (le_of_suc-le-suc h))

agrees : (n : ℕ) → n ≤ 36524 → agree (date n) n ≡ true
agrees n h = subst (λ (m : ℕ). agree (date m) m ≡ true) (zero-add n) (at 36525 0 n century (omega arith))

pub summer_is : (n : ℕ) → n ≤ 36524 → summer_number n ≡ summer (date n)
summer_is n h = same_eq _ _ (and_parts (same (summer_number n) (summer (date n))) (same (weekend_number n) (weekend (date n).weekday)) (agrees n h)).0

pub weekend_is : (n : ℕ) → n ≤ 36524 → weekend_number n ≡ weekend (date n).weekday
weekend_is n h = same_eq _ _ (and_parts (same (summer_number n) (summer (date n))) (same (weekend_number n) (weekend (date n).weekday)) (agrees n h)).1
