-- What the reader's answers stand for.
use Rattle.std.specs.Prelude.{◌≡◌, ℕ, Bool, List, Ok, Err, Result}
use Rattle.settlement.specs.declared.reading.DayFigures.{DayFigures}
use Rattle.slip.specs.Format.{Slip}
use Rattle.slip.specs.Reading.{Read as Reading}
use Rattle.slip.specs.View.{slip_of}
use Rattle.slip.specs.declared.fault.SlipFault.{SlipFault}
use Rattle.slip.specs.declared.reader.Cursor.{Cursor}
use Rattle.slip.specs.declared.reader.Read.{Read}

-- a result, seen through f
abbrev pub seen : {R S E : Type 0} → (R → S) → Result R E → Result S E
seen f (Ok x) = Ok (f x)
seen f (Err e) = Err e

-- a cursor's answer, seen through f, is what is read, and the cursor stands behind it
abbrev pub Reads : {R S : Type 0} → (R → S) → Result R SlipFault → Cursor → Reading S → Type 0
Reads f answer cursor reading = seen (λ x. (f x, cursor.place, cursor.rest.now)) answer ≡ reading

abbrev pub entered : (ℕ → Bool → List ℕ → List ℕ → Slip) → ℕ × DayFigures (List ℕ) → Slip
entered kind e = kind e.0 e.1.rest e.1.used e.1.surplus

abbrev pub slip_read : Read → Slip × List ℕ
slip_read r = (slip_of r.slip, r.rest.now)
