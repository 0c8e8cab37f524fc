-- Bounds of rounding half-up.
use Rattle.std.specs.Prelude.{ℕ, ◌*◌, ◌/◌, ◌<◌, ◌≤◌}
use Rattle.std.proofs.Common.{inl, inr, div-add-mod', mul_comm, mul-le-mul_right, arith}
use Rattle.std.proofs.Math.Nat.{div-le_of_le-mul}
use Rattle.std.proofs.lemmas.Bool.{cases_lt}
use Rattle.std.proofs.lemmas.Bool.Decides.{nat_tests as tells}
use Rattle.tariff.specs.Rounding.{half_up}

-- what is at most m times d rounds to at most m
pub half_up_low : (n m d : ℕ) → 0 < d → n ≤ m * d → half_up n d ≤ m
half_up_low n m d pos h =
    let parts = div-add-mod' n d in
    let low : n / d ≤ m = div-le_of_le-mul d (omega (arith, mul_comm m d)) in
    elim (cases_lt (n / d) m) [ inl lt ↦ grind (arith, tells) | inr le ↦ let more = mul-le-mul_right d le in grind (arith, tells) ]
