use Rattle.std.proofs.Common.{◌≡◌, ℕ, ◌+◌, ◌-◌, ◌≤◌, List, [], ◌++◌, length, take, drop, Ok, Err, Result, ap, ◌∙◌, append-nil, arith, length-drop}
use borrow.Rule.Slice.PartMut.{put_mid}
use Rattle.std.proofs.lemmas.List.{take_rest, drop-drop, drop_all}
use Rattle.line.specs.Lines.{line_bytes, written, LineWritten}
use Rattle.line.specs.declared.fault.LineFault.{LineFault}
use Rattle.line.specs.declared.line.Line.{Line}
use Rattle.counter.proofs.settle.put.Goals as goal

-- a line that was written into the part behind a place
behind : (line : Line) (out part after : List ℕ) (at : ℕ) (r : Result ℕ LineFault) → part ≡ drop at out → at + length (line_bytes line) ≤ length out → LineWritten line part after r
    → put_mid at (length out - at) out after ≡ written out at (line_bytes line)
unfolding written
behind line out part after at (Ok n) part-is fits w =
    let text = line_bytes line in
    let left : drop (length out - at) (drop at out) ≡ [] = drop_all (length out - at) (drop at out) (simp length-drop (omega arith)) in
    let tail : drop n part ≡ drop (at + length text) out = (λ i. drop (w.1 i) (part-is i)) ∙ drop-drop (length text) at out in
    ap (λ l. take at out ++ l) ((λ i. w.2 i ++ left i) ∙ append-nil (text ++ drop n part) ∙ ap (λ l. text ++ l) tail)
behind line out part after at (Err fault) part-is fits w =
    let long : length part ≡ length out - at = ap length part-is ∙ length-drop at out in
    absurd (omega (arith, w.0))

pub returns-then-end-out-clause-bytes : goal.returns-then-end-out-clause-bytes
returns-then-end-out-clause-bytes c fits =
    behind c.args.line.now c.args.out.now _ c.write.new.out c.args.at c.write.result (take_rest c.args.out.now c.args.at) (omega (arith, c.length.ensures.count)) c.write.ensures.line
