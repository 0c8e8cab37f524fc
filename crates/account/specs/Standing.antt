-- The readings that stand in a table of days.
use Rattle.std.specs.Prelude.{ℕ, Bool, List, is_some, None, Option, slice_index_or}
use Rattle.std.specs.List.{list_all}
use Rattle.std.specs.Option.{option_map}
use Rattle.settlement.specs.Totals.{Figures, figures_of}
use Rattle.settlement.specs.declared.reading.Reading.{Reading}

-- by account day; none stands where there is no place
abbrev pub standing_in : List (Option Reading) → ℕ → Option Figures
standing_in days day = option_map figures_of (slice_index_or days day None)

abbrev pub all_standing : List (Option Reading) → Bool
all_standing days = list_all is_some days
