-- The price of a kWh found step by step, and that every kWh of a lawful tariff has one.
use Rattle.std.proofs.Common.{◌≡◌, ℕ, zero, suc, ◌+◌, ◌<◌, ◌≤◌, Bool, true, false, cond, ◌&&◌, ltb, leb, List, [], ◌∷◌, length, get_or, drop, Some, None, Option, sym, refl, ap, ◌∙◌, subst, le_of_suc-le-suc, not-suc-le-zero, add-one, arith, lit≤}
use Rattle.std.proofs.ByRecursion.{All-get_or}
use Rattle.std.proofs.lemmas.List.{at_drop_all}
use Rattle.std.proofs.lemmas.Bool.{and_parts, both_ways, leb-true, lt-ltb}
use Rattle.std.specs.List.{slice_get, AllByRecursion}
use Rattle.tariff.specs.Meaning.{TariffMeaning, LawfulTariff, EveryKwhPriced}
use Rattle.tariff.specs.Steps.{Step, rising, right_table, price_in, above, FirstAbove}

drop_at : (steps : List Step) (i : ℕ) (s : Step) → slice_get steps i ≡ Some s → drop i steps ≡ s ∷ drop (suc i) steps
drop_at [] i s e = absurd (let z : ◌≡◌ {A = ℕ} 0 1 = cc in omega arith)
drop_at (x ∷ steps) zero s e = let same : x ≡ s = cc in ap (λ (y : Step). y ∷ steps) same
drop_at (x ∷ steps) (suc i) s e = drop_at steps i s e

drop_none : (steps : List Step) (i : ℕ) → slice_get steps i ≡ None → drop i steps ≡ []
drop_none [] zero e = refl
drop_none [] (suc i) e = refl
drop_none (x ∷ steps) zero e = absurd (let z : ◌≡◌ {A = ℕ} 0 1 = cc in omega arith)
drop_none (x ∷ steps) (suc i) e = drop_none steps i e

-- at place i of the steps, where those before it end at or below k
module _ (steps : List Step) (k i : ℕ) (price : Option ℕ) (so_far : price_in (drop i steps) k ≡ price) where
  here : (s : Step) → Some s ≡ slice_get steps i → price_in (s ∷ drop (i + 1) steps) k ≡ price
  here s e =
      let cut : drop i steps ≡ s ∷ drop (i + 1) steps = rw add-one (drop_at steps i s (sym e)) in
      sym (ap (λ (l : List Step). price_in l k) cut) ∙ so_far

  pub in_step : (end p : ℕ) → Some (Some end, p) ≡ slice_get steps i → k < end → Some p ≡ price
  in_step end p e lt =
      sym (ap (λ b. cond b (Some p) (price_in (drop (i + 1) steps) k)) (lt-ltb k end lt)) ∙ here (Some end, p) e

  pub in_last : (p : ℕ) → Some (None, p) ≡ slice_get steps i → Some p ≡ price
  in_last p e = here (None, p) e

  pub no_step : None ≡ slice_get steps i → None ≡ price
  no_step e = sym (ap (λ (l : List Step). price_in l k) (drop_none steps i (sym e))) ∙ so_far

  pub no_more : length steps ≤ i → None ≡ price
  no_more h = sym (at_drop_all (λ (l : List Step). price_in l k) steps i h) ∙ so_far

first_above : (from : ℕ) (steps : List Step) (k : ℕ) → rising from steps ≡ true → FirstAbove steps k (price_in steps k)
first_above from [] k e = absurd (both_ways false refl e)
first_above from ((None, p) ∷ []) k e = record {
  place = 0;
  step = (None, p);
  there = refl;
  ends_above = refl;
  none_before = λ i earlier lt is. absurd (not-suc-le-zero lt);
  priced = refl;
}
first_above from ((None, p) ∷ (next ∷ rest)) k e = absurd (both_ways false refl e)
first_above from ((Some end, p) ∷ rest) k e =
    let a = and_parts (ltb from end) (leb end 99999 && (leb p 20000 && rising end rest)) e in
    let b = and_parts (leb end 99999) (leb p 20000 && rising end rest) a.1 in
    let c = and_parts (leb p 20000) (rising end rest) b.1 in
    let later = first_above end rest k c.1 in
    let by_test : (t : Bool) → ltb k end ≡ t → FirstAbove ((Some end, p) ∷ rest) k (cond t (Some p) (price_in rest k)) = λ t. elim t as (λ t. ltb k end ≡ t → FirstAbove ((Some end, p) ∷ rest) k (cond t (Some p) (price_in rest k))) [
      | true ↦ λ is. record {
        place = 0;
        step = (Some end, p);
        there = refl;
        ends_above = is;
        none_before = λ i earlier lt found. absurd (not-suc-le-zero lt);
        priced = refl;
      }
      | false ↦ λ is. record {
        place = suc later.place;
        step = later.step;
        there = later.there;
        ends_above = later.ends_above;
        none_before = λ i. elim i as (λ i. (earlier : Step) → i < suc later.place → slice_get ((Some end, p) ∷ rest) i ≡ Some earlier → above earlier.0 k ≡ false) [
          | zero ↦ λ earlier lt found. let same : Some end ≡ earlier.0 = cc in sym (ap (λ o. above o k) same) ∙ is
          | suc j ↦ λ earlier lt found. later.none_before j earlier (le_of_suc-le-suc lt) found
        ];
        priced = later.priced;
      }
    ] in
    by_test (ltb k end) refl

pub every_priced : (m : TariffMeaning) (tables : List (List Step)) → LawfulTariff m tables → EveryKwhPriced m tables
every_priced m tables l class k lt =
    let there : class < length tables = omega (arith, l.a_table_each) in
    let right = All-get_or (λ table. right_table table ≡ true) tables class [] there l.tables_right in
    let parts = and_parts (leb (length (get_or tables class [])) 4) (rising 0 (get_or tables class [])) right in
    subst (λ price. FirstAbove (get_or tables class []) k price) (sym (l.priced_by_steps class k)) (first_above 0 (get_or tables class []) k parts.1)

-- no table has more than four steps
pub four_at_most : (tables : List (List Step)) (class : ℕ) → AllByRecursion (λ table. right_table table ≡ true) tables → length (get_or tables class []) ≤ 4
four_at_most [] class rights = lit≤ tt
four_at_most (steps ∷ tables) zero rights = leb-true _ 4 (and_parts (leb (length steps) 4) (rising 0 steps) rights.0).0
four_at_most (steps ∷ tables) (suc class) rights = four_at_most tables class rights.1
