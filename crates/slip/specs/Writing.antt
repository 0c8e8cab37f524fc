-- What writing a call as its slip does: the slip's bytes into a buffer, or the first ground against it.
use Rattle.std.specs.Prelude.{◌≡◌, ℕ, Bool, true, cond, ◌&&◌, List, [], ◌++◌, length, drop, Some, None, Ok, Err, Option, Result, ◌==◌, nat_le}
use Rattle.slip.specs.Format.{Slip, opening, post, correct, strike, close, slip_bytes}
use Rattle.slip.specs.Reading.{reads_as}
use Rattle.slip.specs.declared.fault.WritingFault.{WritingFault}
use Rattle.slip.specs.declared.fault.WritingFault.TheVariants as writing

-- a calendar of 1 to 12 months
abbrev pub months_right : Slip → Bool
months_right (opening o) = nat_le 1 (length o.lengths) && nat_le (length o.lengths) 12
months_right (post day f) = true
months_right (correct day f) = true
months_right (strike day) = true
months_right (close p) = true

-- lists of 48 figures
abbrev pub figures_right : Slip → Bool
figures_right (opening o) = true
figures_right (post day f) = length f.used == 48 && length f.surplus == 48
figures_right (correct day f) = length f.used == 48 && length f.surplus == 48
figures_right (strike day) = true
figures_right (close p) = true

-- the first ground against writing a slip into so many bytes
abbrev pub writing_ground : Slip → ℕ → Option WritingFault
writing_ground s room =
    cond (months_right s)
    (cond (figures_right s)
    (cond (nat_le (length (slip_bytes s)) room) None (Some writing.Buffer))
    (Some writing.Figures))
    (Some writing.Months)

-- where no ground holds, bytes stand at the front of the buffer; where one does, the buffer is as it was
abbrev pub Put : Option WritingFault → List ℕ → List ℕ → List ℕ → Result ℕ WritingFault → Type 0
Put against bytes before after (Ok n) = (against ≡ None) × (n ≡ length bytes) × (after ≡ bytes ++ drop n before)
Put against bytes before after (Err fault) = (against ≡ Some fault) × (after ≡ before)

abbrev pub Written : Slip → List ℕ → List ℕ → Result ℕ WritingFault → Type 0
Written s before after r = Put (writing_ground s (length before)) (slip_bytes s) before after r

-- what is written reads back as the same slip, with nothing behind
abbrev pub ReadsBack : Slip → Result ℕ WritingFault → Type 0
ReadsBack s (Ok n) = reads_as (slip_bytes s) ≡ Ok (s, [])
ReadsBack s (Err fault) = Unit {0}
