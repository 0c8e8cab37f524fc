use Rattle.std.proofs.Common.{◌≡◌, Bool, true, false, cond, not, List, [], ◌∷◌, find, is_some, Some, Option, ℕ, refl, sym, ap, ◌∙◌, rules, tests}
use Rattle.std.proofs.lemmas.Iterator.{YieldsList-from_range}
use Rattle.std.proofs.lemmas.Iterator.Adapters.{option_map_id}
use Rattle.std.proofs.lemmas.Iterator.Search.{find_from_yields_List}
use Rattle.settlement.specs.Totals.{Figures}
use Rattle.account.specs.Ledger.{first_missing}
use Rattle.account.specs.Standing.{standing_in}
use Rattle.account.proofs.day_table.DayTable.first_missing.Goals as goal

first_of : (b : Bool) (day : ℕ) (later : Option ℕ) → cond (not b) (Some day) later ≡ cond b later (Some day)
first_of true day later = refl
first_of false day later = refl

missing_found : (standing : ℕ → Option Figures) (days : List ℕ) → find (λ day. not (is_some (standing day))) days ≡ first_missing standing days
missing_found standing [] = refl
missing_found standing (day ∷ days) =
    first_of (is_some (standing day)) day _ ∙ ap (λ later. cond (is_some (standing day)) later (Some day)) (missing_found standing days)

pub returns : goal.returns
returns c =
    let test : ℕ → Bool = λ day. not (is_some (standing_in c.args.self.now.days day)) in
    sym (option_map_id c.find.result)
    ∙ find_from_yields_List test _ _ c.find.result c.find.ensures.ran (YieldsList-from_range c.args.days.start c.args.days.end _ refl refl) (λ x b q k. search (rules, tests))
    ∙ missing_found (standing_in c.args.self.now.days) _
