-- Which lists make a reading.
use Rattle.std.specs.Prelude.{◌≡◌, ℕ, Bool, cond, ◌&&◌, List, length, Some, None, Option, Result, MatchResult, ◌==◌}
use Rattle.settlement.specs.Limits.{figures_within}
use Rattle.settlement.specs.declared.reading.Reading.{Reading}
use Rattle.settlement.specs.declared.reading.ReadingFault.{ReadingFault}
use Rattle.settlement.specs.declared.reading.ReadingFault.TheVariants.{Length, Figure}

-- the first ground against a reading of these figures
abbrev pub reading_ground : List ℕ → List ℕ → Option ReadingFault
reading_ground used surplus =
    cond (length used == 48 && length surplus == 48)
    (cond (figures_within used && figures_within surplus) None (Some Figure))
    (Some Length)

-- the reading of a day's figures, if there is no ground against it
abbrev pub ReadingGiven : Bool → List ℕ → List ℕ → Result Reading ReadingFault → Type 0
ReadingGiven rest used surplus r =
    MatchResult r
    (λ d. (d.rest ≡ rest) × (d.used ≡ used) × (d.surplus ≡ surplus) × (reading_ground used surplus ≡ None))
    (λ f. reading_ground used surplus ≡ Some f)
