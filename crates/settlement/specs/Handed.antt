-- A day's figures as handed in.
use Rattle.std.specs.Prelude.{ℕ, List}
use Rattle.std.specs.Borrow.{Bor}
use Rattle.settlement.specs.Totals.{Figures}
use Rattle.settlement.specs.declared.reading.DayFigures.{DayFigures}

-- by the lists that are held
abbrev pub lists_of : {F : Type 0} → (F → List ℕ) → DayFigures F → Figures
lists_of list d = record { rest = d.rest; used = list d.used; surplus = list d.surplus }

-- by the lists that are referred to
abbrev pub figures_in : DayFigures (Bor (List ℕ)) → Figures
figures_in d = lists_of (λ l. l.now) d
