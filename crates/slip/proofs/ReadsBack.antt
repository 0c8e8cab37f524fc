-- What is written reads back as the same slip.
use Rattle.std.proofs.Common.{◌≡◌, ℕ, ◌<◌, List, [], length, get_or, take, drop, IfOk, Ok, Err, Result, sym, refl, ap, ◌∙◌, subst, append-nil}
use Rattle.std.specs.List.{All}
use Rattle.std.proofs.lemmas.List.Elements.{All-from_get_or, All-take}
use Rattle.std.proofs.lemmas.List.{take_at}
use Rattle.slip.specs.Exact.{One, Fits}
use Rattle.slip.specs.Format.{Slip, slip_bytes}
use Rattle.slip.specs.Writing.{Written, ReadsBack}
use Rattle.slip.specs.declared.fault.WritingFault.{WritingFault}
use Rattle.slip.proofs.Exactness.{exact}

-- a buffer that holds a slip holds bytes
pub back : (s : Slip) (before after : List ℕ) (r : Result ℕ WritingFault) → ((i : ℕ) → i < length after → One (get_or after i 0)) → Written s before after r → IfOk r (λ _. Fits s) → ReadsBack s r
back s before after (Ok n) bytes written fits =
    let front : take (length (slip_bytes s)) after ≡ slip_bytes s = ap (take (length (slip_bytes s))) written.2 ∙ take_at (slip_bytes s) (drop n before) _ refl in
    let all : All One (slip_bytes s) = subst (All One) front (All-take One (length (slip_bytes s)) after (All-from_get_or One after 0 bytes)) in
    (exact (slip_bytes s) all).reads s [] fits (sym (append-nil (slip_bytes s)))
back s before after (Err fault) bytes written fits = tt
