-- An order that is not refused opens a lawful account.
use Rattle.std.proofs.Common.{◌≡◌, ℕ, suc, ◌+◌, ◌≤◌, Bool, true, false, cond, ◌&&◌, eqb, leb, List, length, Some, None, sum, Option, refl, arith}
use Rattle.std.proofs.lemmas.Bool.{and_parts, leb-true}
use Rattle.tariff.specs.Lawful.{standard_lawful, night_lawful, seasonal_lawful}
use Rattle.tariff.specs.Percent.{supply_kept}
use Rattle.tariff.specs.Calendar.{last_day}
use Rattle.tariff.specs.Discount.{is_percent}
use Rattle.tariff.specs.Meaning.{Lawful}
use Rattle.tariff.specs.Plans.{numbered, numbered_tables}
use Rattle.tariff.specs.Tariffs.{is_capacity, standard, standard_tables, night, night_tables, seasonal, seasonal_tables}
use Rattle.tariff.specs.declared.fault.PlanFault.{PlanFault}
use Rattle.settlement.specs.Boxes.{box_lettered}
use Rattle.settlement.specs.declared.deposit_box.DepositBox.{DepositBox}
use Rattle.account.proofs.Held.{lengths_within}
use Rattle.account.proofs.Unrefused.{needed}
use Rattle.account.specs.Calendars.{lengths_right, calendar_ground, boxed_ground}
use Rattle.account.specs.Ledger.{LawfulOpening}
use Rattle.account.specs.declared.fault.AccountFault.{AccountFault}
use Rattle.slip.specs.Format.{Opening as Order}
use Rattle.counter.specs.Book.{either_ground, order_ground, ordered}

numbered_lawful : (tariff capacity : ℕ) → capacity ≤ 49 → Lawful (numbered tariff capacity) (numbered_tables tariff)
numbered_lawful tariff capacity h =
    let rest : (b : Bool) → Lawful (cond b (night capacity) (seasonal capacity)) (cond b night_tables seasonal_tables) =
    λ b. elim b as (λ b. Lawful (cond b (night capacity) (seasonal capacity)) (cond b night_tables seasonal_tables)) [ true ↦ night_lawful capacity h | false ↦ seasonal_lawful capacity h ] in
    elim (eqb tariff 1) as (λ b. Lawful (cond b (standard capacity) (cond (eqb tariff 2) (night capacity) (seasonal capacity))) (cond b standard_tables (cond (eqb tariff 2) night_tables seasonal_tables)))
    [ true ↦ standard_lawful capacity h | false ↦ rest (eqb tariff 2) ]

-- neither the supply nor the account has a ground
neither : (plan : Option PlanFault) (account : Option AccountFault) → either_ground plan account ≡ None → (plan ≡ None) × (account ≡ None)
neither None None e = (refl, refl)
neither None (Some fault) e = absurd (let z : ◌≡◌ {A = ℕ} 0 1 = cc in omega arith)
neither (Some fault) account e = absurd (let z : ◌≡◌ {A = ℕ} 0 1 = cc in omega arith)

boxed : (box : Option DepositBox) (first : ℕ) (lengths : List ℕ) → boxed_ground box first lengths ≡ None → (chosen : DepositBox) × (box ≡ Some chosen) × (calendar_ground first lengths ≡ None)
boxed None first lengths e = absurd (let z : ◌≡◌ {A = ℕ} 0 1 = cc in omega arith)
boxed (Some chosen) first lengths e = (chosen, refl, e)

-- the box that it has, and what it opens
pub order_lawful : (order : Order) → order_ground order ≡ None → (box : DepositBox) × (box_lettered order.letter ≡ Some box) × LawfulOpening (ordered order box)
order_lawful order e =
    let both = neither _ _ e in
    let plan = needed (leb 1 order.tariff && leb order.tariff 3) _ _ both.0 in
    let capacity = needed (is_capacity order.capacity) _ _ plan.1 in
    let percent = needed (is_percent order.percent) _ _ capacity.1 in
    let chosen = boxed (box_lettered order.letter) order.first order.lengths both.1 in
    let months = needed (leb 1 (length order.lengths) && leb (length order.lengths) 12) _ _ chosen.2 in
    let right = needed (lengths_right order.lengths) _ _ months.1 in
    let ends = needed (leb (order.first + sum order.lengths) (suc last_day)) _ _ right.1 in
    let count = and_parts (leb 1 (length order.lengths)) (leb (length order.lengths) 12) months.0 in
    let below = leb-true order.capacity 49 (and_parts (leb 1 order.capacity) (leb order.capacity 49) capacity.0).1 in
    let part = leb-true order.percent 100 (and_parts (leb 1 order.percent) (leb order.percent 100) percent.0).1 in (
      chosen.0,
      chosen.1,
      record {
        supply = supply_kept order.percent part _ _ (numbered_lawful order.tariff order.capacity below);
        some_month = leb-true 1 (length order.lengths) count.0;
        few_months = leb-true (length order.lengths) 12 count.1;
        lengths_within = lengths_within order.lengths right.0;
        last_on_calendar = leb-true (order.first + sum order.lengths) (suc last_day) ends.0;
      },
    )
