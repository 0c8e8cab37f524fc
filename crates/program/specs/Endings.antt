-- How a program ends.
use Rattle.std.specs.Prelude.{ℕ, Result, Ok, Err}

-- the exit status of an outcome: 0 where all went well
abbrev pub status_of : {T E : Type 0} → Result T E → ℕ
status_of (Ok done) = 0
status_of (Err wrong) = 1
