-- What is written behind what was written so far.
use Rattle.std.proofs.Common.{◌≡◌, ℕ, ◌+◌, ◌-◌, ◌≤◌, List, [], ◌++◌, length, take, drop, refl, sym, ap, ◌∙◌, subst, append_assoc, arith, length-append, length-drop, take-append-drop}
use borrow.Rule.Slice.PartMut.{put_mid}
use Rattle.std.proofs.lemmas.List.{take_at, drop_at, drop-drop, length-take-le}
use Rattle.line.specs.Lines.{written, HasRoom, Wrote, Handed}
use Rattle.line.specs.declared.pen.Pen.{Pen}

-- a part that was filled with a text
pub part_written : (out text part : List ℕ) (at end : ℕ) → end ≡ at + length text → part ≡ text → put_mid at (end - at) out part ≡ written out at text
unfolding written
part_written out text part at end e p =
    let size : end - at ≡ length text = omega arith in
    ap (λ l. take at out ++ l) ((λ i. p i ++ drop (size i) (drop at out)) ∙ ap (λ l. text ++ l) (drop-drop (length text) at out))

-- a buffer keeps its size
pub written_size : (out : List ℕ) (at : ℕ) (text : List ℕ) → at + length text ≤ length out → length (written out at text) ≡ length out
unfolding written
written_size out at text h =
    let front : length (take at out) ≡ at = length-take-le at out (omega arith) in
    simp (length-append, length-drop) (omega arith)

-- one text more
pub written_more : (out : List ℕ) (s : ℕ) (text more : List ℕ) {o p : List ℕ} {at : ℕ} → o ≡ written out s text → p ≡ written o at more → at ≡ s + length text → at ≤ length out
    → p ≡ written out s (text ++ more)
unfolding written
written_more out s text more {o} {p} {at} e f a h =
    let front : length (take s out) ≡ s = length-take-le s out (omega arith) in
    let before : length (take s out ++ text) ≡ at = simp length-append (omega arith) in
    let apart : o ≡ (take s out ++ text) ++ drop (s + length text) out = e ∙ sym (append_assoc (take s out) text (drop (s + length text) out)) in
    let o_take : take at o ≡ take s out ++ text = ap (take at) apart ∙ take_at _ _ at before in
    let o_drop : drop at o ≡ drop at out = ap (drop at) apart ∙ drop_at _ _ at before ∙ ap (λ n. drop n out) (sym a) in
    let tail : drop (at + length more) o ≡ drop (s + length (text ++ more)) out =
    sym (drop-drop (length more) at o) ∙ ap (drop (length more)) o_drop ∙ drop-drop (length more) at out ∙ ap (λ n. drop n out) (simp length-append (omega arith)) in
    f ∙ (λ i. o_take i ++ (more ++ tail i)) ∙ simp append_assoc

-- a text that was written at the front
pub written_front : (out text : List ℕ) {p : List ℕ} {n : ℕ} → p ≡ written out 0 text → n ≡ length text → p ≡ text ++ drop n out
unfolding written
written_front out text {p} {n} e k = e ∙ ap (λ m. text ++ drop m out) (omega arith)

-- a pen wrote what there was room for
pub handed : {a b : Pen} {text : List ℕ} → HasRoom a text → Handed a text b → Wrote a text b
handed room h = record { same_buffer = h.same_buffer; room = room; size = h.size; place = h.place room; bytes = h.bytes room }

-- a pen wrote one text behind another
pub wrote_more : {a b c : Pen} {text more : List ℕ} → Wrote a text b → Wrote b more c → Wrote a (text ++ more) c
wrote_more {a} {b} {c} {text} {more} p q =
    record {
      same_buffer = q.same_buffer ∙ p.same_buffer;
      room = simp length-append (omega arith);
      size = omega arith;
      place = simp length-append (omega arith);
      bytes = written_more a.out.now a.at text more p.bytes q.bytes p.place (omega arith);
    }

-- a pen wrote a text at the front of a buffer, which ends as the pen left it
pub wrote_front : (out : List ℕ) {a b : Pen} {text after : List ℕ} → a.out.now ≡ out → a.at ≡ 0 → Wrote a text b → after ≡ b.out.now
    → (length text ≤ length out) × (b.at ≡ length text) × (after ≡ text ++ drop b.at out)
wrote_front out {a} {b} {text} same front w left =
    let whole : length a.out.now ≡ length out = ap length same in
    let written_there : b.out.now ≡ written out 0 text = w.bytes ∙ ap (λ l. written l a.at text) same ∙ ap (λ n. written out n text) front in
    let behind : b.at ≡ length text = omega arith in
    (omega arith, behind, left ∙ written_front out text written_there behind)

-- a pen that wrote nothing yet
pub wrote_none : (a : Pen) → a.at ≤ length a.out.now → Wrote a [] a
unfolding written
wrote_none a h =
    record {
      same_buffer = refl;
      room = omega arith;
      size = refl;
      place = omega arith;
      bytes = sym (ap (λ n. take a.at a.out.now ++ drop n a.out.now) (omega arith) ∙ take-append-drop a.at a.out.now);
    }

-- the same text in another form
pub wrote_as : {a b : Pen} {text other : List ℕ} → text ≡ other → Wrote a text b → Wrote a other b
wrote_as {a} {b} e w = subst (λ t. Wrote a t b) e w
