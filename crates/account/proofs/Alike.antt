-- Openings that are alike charge alike for the same readings and prices, however their steps are cut.
use Rattle.std.proofs.Common.{◌≡◌, ℕ, ◌+◌, ◌<◌, ◌≤◌, List, length, get_or, Some, None, Option, sym, refl, ap, ◌∙◌, subst, arith}
use Rattle.std.specs.Option.{option_map}
use Rattle.tariff.specs.Meaning.{Meaning, Lawful}
use Rattle.tariff.specs.Steps.{Step}
use Rattle.settlement.specs.Settling.{numbers}
use Rattle.settlement.specs.declared.prices.MonthPrices.{MonthPrices}
use Rattle.settlement.specs.Totals.{Figures, MonthTotals, gathered}
use Rattle.settlement.specs.declared.deposit_box.DepositBox.{DepositBox}
use Rattle.settlement.proofs.Months.{Shared, gathered_whole, charges_alike}
use Rattle.account.specs.History.{int_sum, closed_nets}
use Rattle.account.specs.Ledger.{Opening, OpenedAlike, Ledger, month_start, closed_days, month_readings, net_in, no_prices}
use Rattle.account.proofs.MonthDays.{month_ends}
use Rattle.account.proofs.Nets.{map_same, same_readings, net}

-- the net of totals, where there are any
same_net : (m : Meaning) (tables others : List (List Step)) (box : DepositBox) (p : MonthPrices) → Lawful m tables → Lawful m others → (t : Option MonthTotals) → ((whole : MonthTotals) → t ≡ Some whole → Shared m.tariff whole) → net_in (option_map (numbers m others box p) t) ≡ net_in (option_map (numbers m tables box p) t)
same_net m tables others box p law law' None shared = refl
same_net m tables others box p law law' (Some t) shared = ap (λ c. c.net) (charges_alike m box t (shared t refl) others tables law' law p)

-- the same opening by other tables, and another ledger with the same prices and readings of closed months
module _ (o : Opening) (others : List (List Step)) (law : Lawful o.meaning o.tables) (law' : Lawful o.meaning others) (l : Ledger) (standing : ℕ → Option Figures) (few : length l.closed ≤ length o.lengths) (same : (day : ℕ) → day < closed_days o l → standing day ≡ l.standing day) where
  abbrev p : Opening
  p = record { meaning = o.meaning; tables = others; box = o.box; first = o.first; lengths = o.lengths }

  abbrev k : Ledger
  k = record { standing = standing; closed = l.closed }

  nets_by_tables : closed_nets p k ≡ closed_nets o l
  nets_by_tables = ap int_sum (map_same (net p k) (net o l) 0 (length l.closed) (λ month ge lt.
      let m = o.meaning.tariff in
      let from = o.first + month_start o month in
      let prices = get_or l.closed month no_prices in
      let readings = same_readings o l k month (λ day le below. same day (omega (arith, month_ends o month (length l.closed) (omega arith) few))) in
      ap (λ days. net_in (option_map (numbers o.meaning others o.box prices) (gathered m from days))) readings
      ∙ same_net o.meaning o.tables others o.box prices law law' (gathered m from (month_readings o l month)) (gathered_whole m from (month_readings o l month))))

-- an opening that is alike is this one by its own tables
by_own_tables : (o p : Opening) → OpenedAlike o p → p ≡ record { meaning = o.meaning; tables = p.tables; box = o.box; first = o.first; lengths = o.lengths }
by_own_tables o p alike = λ i. record {
  meaning = sym alike.same_meaning i;
  tables = p.tables;
  box = sym alike.same_box i;
  first = sym alike.same_first i;
  lengths = sym alike.same_lengths i;
}

pub nets_alike : (o p : Opening) → Lawful o.meaning o.tables → Lawful p.meaning p.tables → OpenedAlike o p → (l k : Ledger) → length l.closed ≤ length o.lengths → k.closed ≡ l.closed → ((day : ℕ) → day < closed_days o l → k.standing day ≡ l.standing day) → closed_nets p k ≡ closed_nets o l
nets_alike o p law law' alike l k few prices same =
    (λ i. closed_nets (by_own_tables o p alike i) (record { standing = k.standing; closed = prices i }))
    ∙ nets_by_tables o p.tables law (subst (λ m. Lawful m p.tables) (sym alike.same_meaning) law') l k.standing few same
