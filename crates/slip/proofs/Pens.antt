-- What a pen wrote at the front of a buffer.
use Rattle.std.proofs.Common.{◌≡◌, ℕ, ◌+◌, ◌<◌, ◌≤◌, List, ◌++◌, length, get_or, take, drop, None, Ok, Option, refl, ap, ◌∙◌, subst, arith}
use Rattle.std.specs.List.{All}
use Rattle.std.proofs.lemmas.List.Elements.{All-from_get_or, All-take, All-drop}
use Rattle.std.proofs.lemmas.List.{take_at, drop_at, length-take-le}
use Rattle.line.specs.Lines.{written, Wrote}
use Rattle.line.specs.declared.pen.Pen.{Pen}
use Rattle.line.proofs.Written.{wrote_front}
use Rattle.slip.specs.Exact.{One}
use Rattle.slip.specs.Writing.{Put}
use Rattle.slip.specs.declared.fault.WritingFault.{WritingFault}

-- bytes at the front of a buffer that has room for them are put there where no ground stands against it
pub put_front : (against : Option WritingFault) (out : List ℕ) {a b : Pen} {text after : List ℕ} → a.out.now ≡ out → a.at ≡ 0 → Wrote a text b → (length text ≤ length out → against ≡ None) → after ≡ b.out.now
    → Put against text out after (Ok b.at)
put_front against out same front w ground left =
    let there = wrote_front out same front w left in
    (ground there.0, there.1, there.2)

-- a text that a buffer of bytes holds is one of bytes
pub wrote_bytes : {a b : Pen} {text after : List ℕ} → ((i : ℕ) → i < length after → One (get_or after i 0)) → after ≡ b.out.now → Wrote a text b → All One text
unfolding written
wrote_bytes {a} {b} {text} {after} bytes left w =
    let here : drop a.at after ≡ text ++ drop (a.at + length text) a.out.now =
    ap (drop a.at) (left ∙ w.bytes) ∙ drop_at (take a.at a.out.now) _ a.at (length-take-le a.at a.out.now (omega arith)) in
    let own : take (length text) (drop a.at after) ≡ text = ap (take (length text)) here ∙ take_at text _ (length text) refl in
    subst (All One) own (All-take One (length text) (drop a.at after) (All-drop One a.at after (All-from_get_or One after 0 bytes)))
