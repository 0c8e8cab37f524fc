use Rattle.std.proofs.Common.{◌≡◌, ℕ, ◌+◌, ◌<◌, ◌≤◌, Bool, false, List, [], ◌∷◌, length, get_or, take, drop, set, Ok, Err, sym, refl, ap, ◌∙◌, append-nil, arith, length-set, take_all}
use Rattle.std.proofs.lemmas.List.{take_rest, drop_more, take_more_set, drop_all}
use Rattle.std.proofs.lemmas.Result.{err_from_is_err_and}
use Rattle.slip.specs.declared.fault.SlipFault.{SlipFault}
use Rattle.slip.specs.Reading.{Read, all_bits, figure, figures, standing}
use Rattle.slip.proofs.Parts.{front, front_none, front_more, front_fault}
use Rattle.slip.proofs.reader.Cursor.figures.Goals as goal

-- the map of so many bytes, and what stands behind it
abbrev six : List ℕ → List ℕ
six bs = get_or bs 0 0 ∷ get_or bs 1 0 ∷ get_or bs 2 0 ∷ get_or bs 3 0 ∷ get_or bs 4 0 ∷ get_or bs 5 0 ∷ []

six_read : (place : ℕ) (bs : List ℕ) → 6 ≤ length bs → figures place bs ≡ standing (all_bits (six bs)) (place + 6) (drop 6 bs)
six_read place [] six = absurd (omega arith)
six_read place (a ∷ []) six = absurd (omega arith)
six_read place (a ∷ (b ∷ [])) six = absurd (omega arith)
six_read place (a ∷ (b ∷ (c ∷ []))) six = absurd (omega arith)
six_read place (a ∷ (b ∷ (c ∷ (d ∷ [])))) six = absurd (omega arith)
six_read place (a ∷ (b ∷ (c ∷ (d ∷ (e ∷ []))))) six = absurd (omega arith)
six_read place (a ∷ (b ∷ (c ∷ (d ∷ (e ∷ (f ∷ bs)))))) six = ap (λ p. standing (all_bits (a ∷ b ∷ c ∷ d ∷ e ∷ f ∷ [])) p bs) (omega arith)

start : (place : ℕ) (bs rest : List ℕ) → 6 ≤ length bs → rest ≡ drop 6 bs → figures place bs ≡ front [] (standing (all_bits (six bs)) (place + 6) rest)
start place bs rest enough e = six_read place bs enough ∙ front_none _ ∙ ap (λ l. front [] (standing (all_bits (six bs)) (place + 6) l)) (sym e)

-- the bit of a half-hour, before the later ones
module _ (all : Read (List ℕ)) (figs : List ℕ) (bits : List Bool) (bit : Bool) (i place : ℕ) (bs : List ℕ) (within : i < length bits) (inv : all ≡ front (take i figs) (standing (drop i bits) place bs)) (own : bit ≡ get_or bits i false) where
  here : all ≡ front (take i figs) (standing (bit ∷ drop (i + 1) bits) place bs)
  here = inv ∙ ap (λ l. front (take i figs) (standing l place bs)) (drop_more bits i false within) ∙ ap (λ b. front (take i figs) (standing (b ∷ drop (i + 1) bits) place bs)) (sym own)

  again : i < length figs → (n behind : ℕ) (rest : List ℕ) → Ok (n, behind, rest) ≡ figure bit place bs → all ≡ front (take (i + 1) (set figs i n)) (standing (drop (i + 1) bits) behind rest)
  again whole n behind rest e =
      here ∙ front_more (take i figs) bit (drop (i + 1) bits) place bs n behind rest (sym e) ∙ ap (λ l. front l (standing (drop (i + 1) bits) behind rest)) (sym (take_more_set figs i n whole))

  fault-is : (fault : SlipFault) → Err fault ≡ figure bit place bs → all ≡ Err fault
  fault-is fault e = here ∙ front_fault (take i figs) bit (drop (i + 1) bits) place bs fault (sym e)

done : (all : Read (List ℕ)) (figs : List ℕ) (bits : List Bool) (i place : ℕ) (bs : List ℕ) → length bits ≤ i → length figs ≤ i → all ≡ front (take i figs) (standing (drop i bits) place bs) → all ≡ Ok (figs, place, bs)
done all figs bits i place bs b f inv =
    inv ∙ ap (λ l. front l (standing (drop i bits) place bs)) (take_all i figs f) ∙ ap (λ l. front figs (standing l place bs)) (drop_all i bits b) ∙ ap (λ l. Ok (l, place, bs)) (append-nil figs)

pub loop-half_hour-init : goal.loop-half_hour-init
loop-half_hour-init c =
    let bs = c.args.self.now.rest.now in
    (omega arith, refl, start c.args.self.now.place bs _ (omega arith) (take_rest bs 6))

pub loop-half_hour-preserved : goal.loop-half_hour-preserved
loop-half_hour-preserved c =
    let all = figures c.args.self.now.place c.args.self.now.rest.now in
    let loop = c.loop-half_hour in (
      omega (arith, c.in_ok-figure.ensures.near),
      simp length-set loop.invariant.1,
      again all loop.figure-items (all_bits (six c.args.self.now.rest.now)) c.stands.result loop.half_hour loop.self.place loop.self.rest.now c.loop-half_hour-test.true loop.invariant.2 c.stands.ensures (omega arith)
          c.in_ok-figure.field-0 c.figure.new.self.place c.figure.new.self.rest.now c.in_ok-figure.ensures.answer,
    )

pub returns-in_err-figure-clause-answer : goal.returns-in_err-figure-clause-answer
returns-in_err-figure-clause-answer c =
    let all = figures c.args.self.now.place c.args.self.now.rest.now in
    let loop = c.loop-half_hour in
    let p = err_from_is_err_and c.from_residual.result c.from_residual.ensures.1 in
    rw (p.1, p.2) (sym (fault-is all loop.figure-items (all_bits (six c.args.self.now.rest.now)) c.stands.result loop.half_hour loop.self.place loop.self.rest.now c.loop-half_hour-test.true loop.invariant.2 c.stands.ensures _ c.in_err-figure.ensures.answer))

pub returns : goal.returns
returns c =
    let all = figures c.args.self.now.place c.args.self.now.rest.now in
    let loop = c.loop-half_hour in
    record {
      answer = sym (done all loop.figure-items (all_bits (six c.args.self.now.rest.now)) loop.half_hour loop.self.place loop.self.rest.now c.loop-half_hour-test.false (omega arith) loop.invariant.2);
      near = omega arith;
    }
