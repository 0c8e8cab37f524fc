-- The numbers that are read of words.
use Rattle.std.proofs.Common.{◌≡◌, ℕ, suc, ◌^◌, List, ℤ, pos, negsuc, Ok, Err, Result, ap, ◌∙◌, refl, rules, w16, w64}
use Rattle.std.specs.Prelude.{unsigned_abs, FitsSigned}
use Rattle.std.specs.Int.{FitsUnsignedBits}
use Rattle.std.specs.Result.{OkIff, result_unwrap_or}
use Rattle.std.specs.Str.Parse.{ParsesSigned, ExplainsSignedError, HasSignedDigitsIfOk, signed_digits_value}
use Rattle.std.specs.declared.num.ParseIntError.{ParseIntError}
use Rattle.program.specs.Numbers.{IsRead}
use Rattle.program.proofs.Words.{unsigned-min}
use Rattle.bill.specs.Words.{at_most, counted, as_fuel}

-- a number as an unsigned type of k bits takes it
at_most-unsigned : {E : Type 0} (k most : ℕ) (z : ℤ) (r : Result ℕ E) → suc most ≡ 2 ^ k → OkIff r (FitsUnsignedBits k z) (unsigned_abs z) → result_unwrap_or r most ≡ at_most most z
at_most-unsigned k most (pos n) r large h = unsigned-min k most n r large h
at_most-unsigned k most (negsuc n) (Ok x) large h = absurd h.0
at_most-unsigned k most (negsuc n) (Err e) large h = refl

-- a fuel price as its type takes it
as_fuel-signed : {E : Type 0} (z : ℤ) (r : Result ℤ E) → OkIff r (FitsSigned w16 z) z → result_unwrap_or r (pos 32767) ≡ as_fuel z
as_fuel-signed z (Ok x) h = search rules
as_fuel-signed z (Err e) h = search rules

-- what an i64 is read of
abbrev pub Parses : List ℕ → Result ℤ ParseIntError → Type 0
Parses bs r = ParsesSigned w64 10 bs r × ExplainsSignedError 10 bs r × HasSignedDigitsIfOk bs r

module _ {Unfit : Type 0} {said word : List ℕ} where
  -- a word that is read as such a type, and one that is read as a fuel price
  pub counted-read : (k most : ℕ) {n : ℕ} → suc most ≡ 2 ^ k → IsRead Parses (λ z (r : Result ℕ Unfit). OkIff r (FitsUnsignedBits k z) (unsigned_abs z)) most said n → said ≡ word → n ≡ counted most word
  counted-read k most large read same =
      read.value ∙ at_most-unsigned k most read.number read.converted large read.conversion ∙ ap (at_most most) read.parsed.0.1 ∙ ap (counted most) same

  pub fuel-read : {n : ℤ} → IsRead Parses (λ z (r : Result ℤ Unfit). OkIff r (FitsSigned w16 z) z) (pos 32767) said n → said ≡ word → n ≡ as_fuel (signed_digits_value 10 word)
  fuel-read read same =
      read.value ∙ as_fuel-signed read.number read.converted read.conversion ∙ ap as_fuel read.parsed.0.1 ∙ ap (λ w. as_fuel (signed_digits_value 10 w)) same
