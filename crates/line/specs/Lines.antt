-- The lines of a run in bytes.
use Rattle.std.specs.Prelude.{◌≡◌, ℕ, ◌+◌, ◌<◌, ◌≤◌, List, [], ◌∷◌, ◌++◌, length, take, drop, ℤ, Ok, Err, codes, decimal, Result}
use Rattle.std.specs.Fmt.{signed_decimal}
use Rattle.tariff.specs.declared.refusal.Refusal.{Refusal}
use Rattle.line.specs.declared.fault.LineFault.{LineFault}
use Rattle.line.specs.declared.fault.LineFault.TheVariants.{Buffer}
use Rattle.line.specs.declared.line.Line.{Line}
use Rattle.line.specs.declared.pen.Pen.{Pen}

-- an amount, or a refusal's number and place
abbrev pub outcome_bytes : Result ℤ Refusal → List ℕ
outcome_bytes (Ok amount) = codes "ok " ++ signed_decimal amount
outcome_bytes (Err refusal) = codes "no " ++ (decimal refusal.number ++ (codes " " ++ decimal refusal.place))

-- the number, the letter and the outcome, with spaces between them and a line feed behind
abbrev pub line_bytes : Line → List ℕ
line_bytes line =
    decimal line.number ++ (codes " " ++ (line.letter ∷ (codes " " ++ (outcome_bytes line.outcome ++ (10 ∷ [])))))

-- what `out` holds after `text` was written into it at `at`
unfoldable pub written : List ℕ → ℕ → List ℕ → List ℕ
written out at text = take at out ++ (text ++ drop (at + length text) out)

-- a pen's buffer has room for a text
abbrev pub HasRoom : Pen → List ℕ → Type 0
HasRoom pen text = pen.at + length text ≤ length pen.out.now

-- a pen wrote a text: its buffer had room for the text and holds it, and the pen is behind it
pub record Wrote (before : Pen) (text : List ℕ) (after : Pen) : Type 0 where
  pub same_buffer : after.out.ghost_name ≡ before.out.ghost_name
  pub room : HasRoom before text
  pub size : length after.out.now ≡ length before.out.now
  pub place : after.at ≡ before.at + length text
  pub bytes : after.out.now ≡ written before.out.now before.at text

-- a pen was handed a text: it wrote it where there is room for all of it, and elsewhere its buffer and place are as they
-- were
pub record Handed (before : Pen) (text : List ℕ) (after : Pen) : Type 0 where
  pub same_buffer : after.out.ghost_name ≡ before.out.ghost_name
  pub size : length after.out.now ≡ length before.out.now
  pub place : HasRoom before text → after.at ≡ before.at + length text
  pub bytes : HasRoom before text → after.out.now ≡ written before.out.now before.at text
  pub full : length before.out.now < before.at + length text → (after.out.now ≡ before.out.now) × (after.at ≡ before.at)

-- a line is written at the front of a buffer that holds it, and refused at one that is too short, which stays as it was
abbrev pub LineWritten : Line → List ℕ → List ℕ → Result ℕ LineFault → Type 0
LineWritten line before after (Ok n) =
    (length (line_bytes line) ≤ length before) × (n ≡ length (line_bytes line)) × (after ≡ line_bytes line ++ drop n before)
LineWritten line before after (Err fault) = (length before < length (line_bytes line)) × (fault ≡ Buffer) × (after ≡ before)
