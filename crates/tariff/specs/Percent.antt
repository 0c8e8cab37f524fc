-- A discount of a lawful supply is lawful, and at 100 percent it changes nothing.
use Rattle.std.specs.Prelude.{◌≡◌, ℕ, zero, suc, ◌*◌, ◌≤◌, true, false, cond, ◌&&◌, leb, List, [], ◌∷◌, map, length, Some, None, Option, nat_le, nat_lt, slice_index_or, refl}
use Rattle.std.proofs.Common.{ap, ◌∙◌, mul-le-mul_left, arith, lit≤}
use Rattle.std.proofs.Math.Path.{fun_ext}
use Rattle.std.proofs.lemmas.List.{length-map}
use Rattle.std.proofs.lemmas.Bool.{and_parts, and_from, leb-true, le-leb}
use Rattle.std.proofs.lemmas.Bool.Decides.{nat_tests}
use Rattle.std.specs.List.{slice_get, AllByRecursion}
use Rattle.std.specs.Option.{option_map}
use Rattle.tariff.specs.Discount.{percent_of, discounted, discounted_tariff, discounted_step, discounted_tables, DiscountHolds}
use Rattle.tariff.specs.Meaning.{TariffMeaning, Meaning, LawfulTariff, Lawful}
use Rattle.tariff.specs.HalfUp.{half_up_low}
use Rattle.tariff.specs.Steps.{Step, rising, right_table, price_in, price_of, step_at}

pub percent_low : (percent price : ℕ) → percent ≤ 100 → percent_of percent price ≤ price
percent_low percent price h = half_up_low (price * percent) price 100 (lit≤ tt) (mul-le-mul_left price h)

percent_full : (price : ℕ) → percent_of 100 price ≡ price
percent_full price = grind (arith, nat_tests)

module _ (percent : ℕ) (h : percent ≤ 100) where
  cheaper : (price : ℕ) → nat_le price 20000 ≡ true → nat_le (percent_of percent price) 20000 ≡ true
  cheaper price e = le-leb _ 20000 (omega (arith, percent_low percent price h, leb-true price 20000 e))

  rising_kept : (from : ℕ) (steps : List Step) → rising from steps ≡ true → rising from (map (discounted_step percent) steps) ≡ true
  rising_kept from [] e = e
  rising_kept from ((None, price) ∷ []) e = cheaper price e
  rising_kept from ((None, price) ∷ (next ∷ rest)) e = e
  rising_kept from ((Some end, price) ∷ rest) e =
      let a = and_parts (nat_lt from end) (nat_le end 99999 && (nat_le price 20000 && rising end rest)) e in
      let b = and_parts (nat_le end 99999) (nat_le price 20000 && rising end rest) a.1 in
      let c = and_parts (nat_le price 20000) (rising end rest) b.1 in
      and_from _ _ a.0 (and_from _ _ b.0 (and_from _ _ (cheaper price c.0) (rising_kept end rest c.1)))

  right_kept : (tables : List (List Step)) → AllByRecursion (λ table. right_table table ≡ true) tables → AllByRecursion (λ table. right_table table ≡ true) (discounted_tables percent tables)
  right_kept [] rights = tt
  right_kept (steps ∷ tables) rights =
      let parts = and_parts (nat_le (length steps) 4) (rising 0 steps) rights.0 in
      let few : leb (length (map (discounted_step percent) steps)) 4 ≡ true = simp length-map parts.0 in
      (and_from _ _ few (rising_kept 0 steps parts.1), right_kept tables rights.1)

price_in_kept : (percent : ℕ) (steps : List Step) (k : ℕ) → option_map (percent_of percent) (price_in steps k) ≡ price_in (map (discounted_step percent) steps) k
price_in_kept percent [] k = refl
price_in_kept percent ((None, price) ∷ rest) k = refl
price_in_kept percent ((Some end, price) ∷ rest) k =
    elim (nat_lt k end) as (λ b. option_map (percent_of percent) (cond b (Some price) (price_in rest k)) ≡ cond b (Some (percent_of percent price)) (price_in (map (discounted_step percent) rest) k))
    [ true ↦ refl | false ↦ price_in_kept percent rest k ]

table_kept : (percent : ℕ) (tables : List (List Step)) (class : ℕ) → map (discounted_step percent) (slice_index_or tables class []) ≡ slice_index_or (discounted_tables percent tables) class []
table_kept percent [] class = refl
table_kept percent (steps ∷ tables) zero = refl
table_kept percent (steps ∷ tables) (suc class) = table_kept percent tables class

price_kept : (percent : ℕ) (tables : List (List Step)) (class k : ℕ) → option_map (percent_of percent) (price_of tables class k) ≡ price_of (discounted_tables percent tables) class k
price_kept percent tables class k =
    price_in_kept percent (slice_index_or tables class []) k ∙ ap (λ (steps : List Step). price_in steps k) (table_kept percent tables class)

nth_kept : (percent : ℕ) (steps : List Step) (i : ℕ) → option_map (discounted_step percent) (slice_get steps i) ≡ slice_get (map (discounted_step percent) steps) i
nth_kept percent [] i = refl
nth_kept percent (s ∷ steps) zero = refl
nth_kept percent (s ∷ steps) (suc i) = nth_kept percent steps i

-- a discount's step is the step below it, discounted
pub step_kept : (percent : ℕ) (tables : List (List Step)) (class i : ℕ) → option_map (discounted_step percent) (step_at tables class i) ≡ step_at (discounted_tables percent tables) class i
step_kept percent tables class i =
    nth_kept percent (slice_index_or tables class []) i ∙ ap (λ (steps : List Step). slice_get steps i) (table_kept percent tables class)

pub tariff_kept : (percent : ℕ) → percent ≤ 100 → (m : TariffMeaning) (tables : List (List Step)) → LawfulTariff m tables → LawfulTariff (discounted_tariff percent m) (discounted_tables percent tables)
tariff_kept percent h m tables l = record {
  some_class = l.some_class;
  few_classes = l.few_classes;
  a_table_each = simp length-map l.a_table_each;
  tables_right = right_kept percent h tables l.tables_right;
  class_known = l.class_known;
  class_none = l.class_none;
  priced_by_steps = λ class k. ap (option_map (percent_of percent)) (l.priced_by_steps class k) ∙ price_kept percent tables class k;
}

pub supply_kept : (percent : ℕ) → percent ≤ 100 → (m : Meaning) (tables : List (List Step)) → Lawful m tables → Lawful (discounted percent m) (discounted_tables percent tables)
supply_kept percent h m tables l = record {
  tariff = tariff_kept percent h m.tariff tables l.tariff;
  basic_bound = l.basic_bound;
  minimum_bound = l.minimum_bound;
}

all_of_it : (price : Option ℕ) → option_map (percent_of 100) price ≡ price
all_of_it None = refl
all_of_it (Some price) = ap Some (percent_full price)

full_same : (m : Meaning) → discounted 100 m ≡ m
full_same m =
    let same : (λ class k. option_map (percent_of 100) (m.tariff.price class k)) ≡ m.tariff.price = fun_ext (λ class. fun_ext (λ k. all_of_it (m.tariff.price class k))) in
    ap (λ (price : ℕ → ℕ → Option ℕ). record { tariff = record { classes = m.tariff.classes; class = m.tariff.class; price = price }; basic = m.basic; minimum = m.minimum }) same

pub discount_holds : (percent : ℕ) → percent ≤ 100 → (m : Meaning) (tables : List (List Step)) → Lawful m tables → DiscountHolds percent m tables
discount_holds percent h m tables l = record {
  lawful = supply_kept percent h m tables l;
  full = λ e. ap (λ (p : ℕ). discounted p m) e ∙ full_same m;
}
