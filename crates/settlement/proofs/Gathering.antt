-- The totals of a month, gathered day by day.
use Rattle.std.proofs.Common.{◌≡◌, ℕ, ◌+◌, ◌<◌, ◌≤◌, true, false, cond, List, [], ◌∷◌, ◌++◌, length, get_or, take, drop, replicate, Some, None, sum, Option, sym, refl, ap, ◌∙◌, arith}
use Rattle.std.proofs.lemmas.List.{get_or-map, take_more, take_all, at_drop_more, take-append-drop, length_push}
use Rattle.std.specs.Option.{option_map}
use Rattle.tariff.specs.Meaning.{TariffMeaning}
use Rattle.settlement.specs.Totals.{Figures, figures_of, all_figures, MonthTotals, day_in_class, totals_of, plus_day, numbered, with_first, all_read, is_month, gathered}
use Rattle.settlement.specs.declared.reading.Reading.{Reading}
use Rattle.settlement.proofs.Adding.{totals_none, totals_push, numbered_push, by_class_more, same_month}

all_read_push : (days : List (Option Figures)) (r : Figures) → all_read (days ++ Some r ∷ []) ≡ option_map (λ (rs : List Figures). rs ++ r ∷ []) (all_read days)
all_read_push [] r = refl
all_read_push (None ∷ days) r = refl
all_read_push (Some x ∷ days) r =
    ap (with_first x) (all_read_push days r)
    ∙ elim (all_read days) as (λ o. with_first x (option_map (λ (rs : List Figures). rs ++ r ∷ []) o) ≡ option_map (λ (rs : List Figures). rs ++ r ∷ []) (with_first x o)) [ None ↦ refl | Some rs ↦ refl ]

all_read_missing : (days rest : List (Option Figures)) → all_read (days ++ None ∷ rest) ≡ None
all_read_missing [] rest = refl
all_read_missing (None ∷ days) rest = refl
all_read_missing (Some x ∷ days) rest = ap (with_first x) (all_read_missing days rest)

-- what is read of the code's days at i is what their figures have there
pub figures_at : (days : List (Option Reading)) (i : ℕ) (o : Option Reading) → i < length days → o ≡ get_or days i o → get_or (all_figures days) i None ≡ option_map figures_of o
figures_at days i o lt read = get_or-map (option_map figures_of) days i o None lt ∙ ap (option_map figures_of) (sym read)

-- the totals of the first i days, all of them read
pub record SoFar (m : TariffMeaning) (first : ℕ) (days : List (Option Figures)) (i : ℕ) (totals : MonthTotals) : Type 0 where
  pub readings : List Figures
  pub read : all_read (take i days) ≡ Some readings
  pub many : length readings ≡ i
  pub added : totals ≡ totals_of m (numbered first readings)

module _ (m : TariffMeaning) (first : ℕ) (days : List (Option Figures)) where
  pub so_far_none : (n : ℕ) → m.classes ≡ n → n ≤ 4 → SoFar m first days 0 (record { used = 0; by_class = take n (replicate 4 0); surplus = 0 })
  so_far_none n kind few = record { readings = []; read = refl; many = refl; added = totals_none m n kind few }

  so_far_more : (i day : ℕ) (r : Figures) (t next : MonthTotals) → i < length days → get_or days i None ≡ Some r → day ≡ first + i → next ≡ plus_day m t (day, r) → SoFar m first days i t → SoFar m first days (i + 1) next
  so_far_more i day r t next lt is numbered-as more s = record {
    readings = s.readings ++ r ∷ [];
    read =
        ap all_read (take_more days i None lt ∙ ap (λ x. take i days ++ x ∷ []) is)
        ∙ all_read_push (take i days) r
        ∙ ap (option_map (λ (rs : List Figures). rs ++ r ∷ [])) s.read;
    many = length_push s.readings r ∙ ap (λ n. n + 1) s.many;
    added =
        more
        ∙ ap (λ x. plus_day m x (day, r)) s.added
        ∙ ap (λ (n : ℕ). plus_day m (totals_of m (numbered first s.readings)) (n, r)) (numbered-as ∙ ap (λ n. first + n) (sym s.many))
        ∙ sym (totals_push m (numbered first s.readings) (first + length s.readings, r))
        ∙ ap (totals_of m) (sym (numbered_push first s.readings r));
  }

  -- one day more: its sums added to those of the days before, by class after and before
  pub day_more : (n i used surplus u s : ℕ) (before after : List ℕ) (r : Figures) → m.classes ≡ n → n ≤ length after → i < length days → get_or days i None ≡ Some r → u ≡ sum r.used → s ≡ sum r.surplus → ((class : ℕ) → class < n → get_or after class 0 ≡ get_or before class 0 + day_in_class m class (first + i, r)) → SoFar m first days i (record { used = used; by_class = take n before; surplus = surplus }) → SoFar m first days (i + 1) (record { used = used + u; by_class = take n after; surplus = surplus + s })
  day_more n i used surplus u s before after r kind wide lt is u-is s-is each so_far =
      so_far_more i (first + i) r _ _ lt is refl
      (same_month _ _ (ap (λ x. used + x) u-is) (by_class_more n m.classes after before (λ class. day_in_class m class (first + i, r)) (sym kind) wide (λ class h. each class (omega arith))) (ap (λ x. surplus + x) s-is))
      so_far

  pub so_far_all : (i : ℕ) (t : MonthTotals) → length days ≤ i → is_month first (length days) ≡ true → SoFar m first days i t → Some t ≡ gathered m first days
  so_far_all i t h month s =
      let whole = ap all_read (sym (take_all i days h)) ∙ s.read in
      ap Some s.added
      ∙ sym (ap (option_map (λ readings. totals_of m (numbered first readings))) whole)
      ∙ sym (ap (λ b. cond b (option_map (λ readings. totals_of m (numbered first readings)) (all_read days)) None) month)

  pub missing : (i : ℕ) → i < length days → get_or days i None ≡ None → None ≡ gathered m first days
  missing i lt is =
      let parted = sym (take-append-drop i days) ∙ at_drop_more (λ rest. take i days ++ rest) days i None lt ∙ ap (λ x. take i days ++ x ∷ drop (i + 1) days) is in
      let none = ap all_read parted ∙ all_read_missing (take i days) (drop (i + 1) days) in
      elim (is_month first (length days)) as (λ b. None ≡ cond b (option_map (λ readings. totals_of m (numbered first readings)) (all_read days)) None) [
        | true ↦ sym (ap (option_map (λ readings. totals_of m (numbered first readings))) none)
        | false ↦ refl
      ]
