-- The parts of a slip: what each reads as, and that it reads nothing but its bytes.
use Rattle.std.proofs.Common.{◌≡◌, ℕ, zero, suc, ◌+◌, ◌*◌, ◌/◌, ◌%◌, Bool, true, false, cond, eqb, List, [], ◌∷◌, ◌++◌, map, length, Ok, Err, sym, refl, ap, ◌∙◌, subst, append_assoc, add-zero, arith, length-append}
use Rattle.std.specs.List.{AllByRecursion}
use Rattle.std.proofs.lemmas.Nat.{div-add-mod'}
use Rattle.std.proofs.lemmas.Bool.{eqb-true}
use Rattle.slip.specs.Exact.{One, Two}
use Rattle.slip.specs.Format.{two_bytes, standing_bytes}
use Rattle.slip.specs.declared.fault.SlipFault.{SlipFault}
use Rattle.slip.specs.declared.fault.SlipFault.TheVariants.{Zero}
use Rattle.slip.specs.Reading.{Read, on, byte, number, bytes, figure, standing}

-- a fact about what was read, where it was
abbrev pub Said : {A : Type 0} → (A → List ℕ → Type 0) → Read A → Type 0
Said P (Ok (a, place, rest)) = P a rest
Said P (Err fault) = Unit {0}

pub said_on : {A B : Type 0} {P : A → List ℕ → Type 0} (Q : B → List ℕ → Type 0) (r : Read A) (next : A → ℕ → List ℕ → Read B) → Said P r → ((a : A) (place : ℕ) (rest : List ℕ) → P a rest → Said Q (next a place rest)) → Said Q (on r next)
said_on Q (Ok (a, place, rest)) next p f = f a place rest p
said_on Q (Err fault) next p f = tt

pub said_as : {A : Type 0} {P : A → List ℕ → Type 0} (Q : A → List ℕ → Type 0) (r : Read A) → Said P r → ((a : A) (rest : List ℕ) → P a rest → Q a rest) → Said Q r
said_as Q (Ok (a, place, rest)) p f = f a rest p
said_as Q (Err fault) p f = tt

-- reading on behind what is known to be read
pub on_reads : {A B : Type 0} (r : Read A) (next : A → ℕ → List ℕ → Read B) {a : A} {place : ℕ} {rest : List ℕ} {answer : Read B} → r ≡ Ok (a, place, rest) → next a place rest ≡ answer → on r next ≡ answer
on_reads r next e then = ap (λ r. on r next) e ∙ then

pub on_faults : {A B : Type 0} (r : Read A) (next : A → ℕ → List ℕ → Read B) {fault : SlipFault} → r ≡ Err fault → on r next ≡ Err fault
on_faults r next e = ap (λ r. on r next) e

abbrev pub Bytes : List ℕ → Type 0
Bytes bs = AllByRecursion One bs

pub byte_said : (place : ℕ) (bs : List ℕ) → Bytes bs → Said (λ b rest. (bs ≡ b ∷ rest) × One b × Bytes rest) (byte place bs)
byte_said place [] all = tt
byte_said place (b ∷ bs) all = (refl, all.0, all.1)

pub number_reads : (place n : ℕ) (rest : List ℕ) → number place (two_bytes n ++ rest) ≡ Ok (n, place + 1 + 1, rest)
number_reads place n rest = ap (λ m. Ok (m, place + 1 + 1, rest)) (div-add-mod' n 256)

two_bytes_of : (high low : ℕ) → One high → One low → two_bytes (high * 256 + low) ≡ high ∷ low ∷ []
two_bytes_of high low h l =
    let a : (high * 256 + low) / 256 ≡ high = omega arith in
    let b : (high * 256 + low) % 256 ≡ low = omega arith in
    simp (a, b)

pub number_said : (place : ℕ) (bs : List ℕ) → Bytes bs → Said (λ n rest. (bs ≡ two_bytes n ++ rest) × Two n × Bytes rest) (number place bs)
number_said place [] all = tt
number_said place (high ∷ []) all = tt
number_said place (high ∷ (low ∷ bs)) all =
    (ap (λ l. l ++ bs) (sym (two_bytes_of high low all.0 all.1.0)), omega (arith, all.0, all.1.0), all.1.1)

pub bytes_reads : (ns : List ℕ) (place : ℕ) (rest : List ℕ) → bytes (length ns) place (ns ++ rest) ≡ Ok (ns, place + length ns, rest)
bytes_reads [] place rest = ap (λ p. Ok ([], p, rest)) (omega arith)
bytes_reads (n ∷ ns) place rest =
    ap (λ r. on r (λ more place bs. Ok (n ∷ more, place, bs))) (bytes_reads ns (place + 1) rest) ∙ ap (λ p. Ok (n ∷ ns, p, rest)) (omega arith)

pub bytes_said : (count place : ℕ) (bs : List ℕ) → Bytes bs → Said (λ ns rest. (bs ≡ ns ++ rest) × (length ns ≡ count) × Bytes ns × Bytes rest) (bytes count place bs)
bytes_said zero place bs all = (refl, refl, tt, all)
bytes_said (suc count) place [] all = tt
bytes_said (suc count) place (b ∷ bs) all =
    said_on _ (bytes count (place + 1) bs) _ (bytes_said count (place + 1) bs all.1) (λ ns place rest said. (ap (λ l. b ∷ l) said.0, ap suc said.1, (all.0, said.2), said.3))

-- whether a number's bit stands
abbrev pub stands : ℕ → Bool
stands n = cond (eqb n 0) false true

-- one figure, by whether it is 0
figure_reads : (n : ℕ) (zero? : Bool) (place : ℕ) (rest : List ℕ) → eqb n 0 ≡ zero? → figure (cond zero? false true) place (cond zero? [] (two_bytes n) ++ rest) ≡ Ok (n, place + length (cond zero? [] (two_bytes n)), rest)
figure_reads n true place rest e = ap (λ x. Ok x) (simp (eqb-true n 0 e, add-zero))
figure_reads n false place rest e =
    ap (λ r. on r (λ n behind bs. cond (eqb n 0) (Err (Zero place)) (Ok (n, behind, bs)))) (number_reads place n rest)
    ∙ ap (λ t. cond t (Err (Zero place)) (Ok (n, place + 1 + 1, rest))) e
    ∙ ap (λ p. Ok (n, p, rest)) (omega arith)

-- a figure that was read, before those read behind it
abbrev pub before_others : (ℕ → List ℕ → Read (List ℕ)) → ℕ → ℕ → List ℕ → Read (List ℕ)
before_others others n place bs = on (others place bs) (λ ns place bs. Ok (n ∷ ns, place, bs))

-- a bit's figure, and what is read behind it
abbrev pub each : Bool → (ℕ → List ℕ → Read (List ℕ)) → ℕ → List ℕ → Read (List ℕ)
each bit others place bs = on (figure bit place bs) (before_others others)

checked : (others : ℕ → List ℕ → Read (List ℕ)) (place n behind : ℕ) (rest : List ℕ) (zero? : Bool) → cond zero? (Err (Zero place)) (before_others others n behind rest) ≡ on (cond zero? (Err (Zero place)) (Ok (n, behind, rest))) (before_others others)
checked others place n behind rest true = refl
checked others place n behind rest false = refl

checked_read : (others : ℕ → List ℕ → Read (List ℕ)) (place : ℕ) (r : Read ℕ) → on r (λ n behind bs. cond (eqb n 0) (Err (Zero place)) (before_others others n behind bs)) ≡ on (on r (λ n behind bs. cond (eqb n 0) (Err (Zero place)) (Ok (n, behind, bs)))) (before_others others)
checked_read others place (Ok (n, behind, rest)) = checked others place n behind rest (eqb n 0)
checked_read others place (Err fault) = refl

-- the figures of a map are those of its bits, one after the other
pub standing_bit : (bit : Bool) (bits : List Bool) (place : ℕ) (bs : List ℕ) → standing (bit ∷ bits) place bs ≡ each bit (standing bits) place bs
standing_bit false bits place bs = refl
standing_bit true bits place bs = checked_read (standing bits) place (number place bs)

pub standing_reads : (ns : List ℕ) (place : ℕ) (rest : List ℕ) → standing (map stands ns) place (standing_bytes ns ++ rest) ≡ Ok (ns, place + length (standing_bytes ns), rest)
standing_reads [] place rest = ap (λ p. Ok ([], p, rest)) (omega arith)
standing_reads (n ∷ ns) place rest =
    let own = cond (eqb n 0) [] (two_bytes n) in
    ap (standing (map stands (n ∷ ns)) place) (append_assoc own (standing_bytes ns) rest)
    ∙ standing_bit (stands n) (map stands ns) place (own ++ (standing_bytes ns ++ rest))
    ∙ on_reads _ _ (figure_reads n (eqb n 0) place (standing_bytes ns ++ rest) refl)
    (on_reads _ _ (standing_reads ns (place + length own) rest) (ap (λ p. Ok (n ∷ ns, p, rest)) (simp length-append (omega arith))))

-- a figure that was read
abbrev Figured : Bool → List ℕ → ℕ → List ℕ → Type 0
Figured bit bs n rest = (bs ≡ cond (eqb n 0) [] (two_bytes n) ++ rest) × (stands n ≡ bit) × Two n × Bytes rest

figured_as : (n place behind : ℕ) (bs rest : List ℕ) (zero? : Bool) → eqb n 0 ≡ zero? → bs ≡ two_bytes n ++ rest → Two n → Bytes rest → Said (Figured true bs) (cond zero? (Err (Zero place)) (Ok (n, behind, rest)))
figured_as n place behind bs rest true z e fits all = tt
figured_as n place behind bs rest false z e fits all = (simp z e, simp z refl, fits, all)

figure_said : (bit : Bool) (place : ℕ) (bs : List ℕ) → Bytes bs → Said (Figured bit bs) (figure bit place bs)
figure_said false place bs all = (refl, refl, omega arith, all)
figure_said true place bs all =
    said_on (Figured true bs) (number place bs) _ (number_said place bs all) (λ n behind rest read. figured_as n place behind bs rest (eqb n 0) refl read.0 read.1 read.2)

abbrev Stood : List Bool → List ℕ → List ℕ → List ℕ → Type 0
Stood bits bs ns rest = (bs ≡ standing_bytes ns ++ rest) × (map stands ns ≡ bits) × AllByRecursion Two ns × Bytes rest

pub standing_said : (bits : List Bool) (place : ℕ) (bs : List ℕ) → Bytes bs → Said (Stood bits bs) (standing bits place bs)
standing_said [] place bs all = (refl, refl, tt, all)
standing_said (bit ∷ bits) place bs all =
    subst (Said (Stood (bit ∷ bits) bs)) (sym (standing_bit bit bits place bs)) (said_on (Stood (bit ∷ bits) bs) (figure bit place bs) _ (figure_said bit place bs all) (λ n behind more f.
    said_on (Stood (bit ∷ bits) bs) (standing bits behind more) _ (standing_said bits behind more f.3) (λ ns place rest s. (
      f.0 ∙ ap (λ l. cond (eqb n 0) [] (two_bytes n) ++ l) s.0 ∙ sym (append_assoc (cond (eqb n 0) [] (two_bytes n)) (standing_bytes ns) rest),
      ap (λ b. b ∷ map stands ns) f.1 ∙ ap (λ l. bit ∷ l) s.1,
      (f.2, s.2),
      s.3,
    ))))

-- numbers read before the others
abbrev pub front : List ℕ → Read (List ℕ) → Read (List ℕ)
front before r = on r (λ ns place bs. Ok (before ++ ns, place, bs))

pub front_none : (r : Read (List ℕ)) → r ≡ front [] r
front_none (Ok (ns, place, bs)) = refl
front_none (Err fault) = refl

front_on : (before : List ℕ) (n : ℕ) (r : Read (List ℕ)) → front before (on r (λ ns place bs. Ok (n ∷ ns, place, bs))) ≡ front (before ++ n ∷ []) r
front_on before n (Ok (ns, place, bs)) = ap (λ l. Ok (l, place, bs)) (sym (append_assoc before (n ∷ []) ns))
front_on before n (Err fault) = refl

-- one figure more, or a fault
pub front_more : (before : List ℕ) (bit : Bool) (bits : List Bool) (place : ℕ) (bs : List ℕ) (n behind : ℕ) (rest : List ℕ) → figure bit place bs ≡ Ok (n, behind, rest)
    → front before (standing (bit ∷ bits) place bs) ≡ front (before ++ n ∷ []) (standing bits behind rest)
front_more before bit bits place bs n behind rest e =
    ap (front before) (standing_bit bit bits place bs ∙ on_reads _ _ e refl) ∙ front_on before n (standing bits behind rest)

pub front_fault : (before : List ℕ) (bit : Bool) (bits : List Bool) (place : ℕ) (bs : List ℕ) (fault : SlipFault) → figure bit place bs ≡ Err fault → front before (standing (bit ∷ bits) place bs) ≡ Err fault
front_fault before bit bits place bs fault e = ap (front before) (standing_bit bit bits place bs ∙ on_faults _ _ e)
