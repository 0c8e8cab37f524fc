use Rattle.std.proofs.Common.{◌≡◌, ℕ, suc, ◌^◌, List, min, ap, ◌∙◌, refl, pos, Result, arith, rules}
use Rattle.std.specs.Int.{FitsUnsignedBits}
use Rattle.std.specs.Result.{OkIff}
use Rattle.std.specs.Str.Parse.{ParsesUnsigned, ExplainsUnsignedError, HasUnsignedDigitsIfOk}
use Rattle.std.specs.declared.num.ParseIntError.{ParseIntError}
use Rattle.program.specs.Numbers.{IsRead}
use Rattle.program.proofs.Words.{word_at, unsigned-min}
use Rattle.fuel.specs.Words.{counted}
use Rattle.fuel.proofs.priced.Goals as goal

-- what a u64 is read of
abbrev Parses : List ℕ → Result ℕ ParseIntError → Type 0
Parses bs r = ParsesUnsigned 64 10 bs r × ExplainsUnsignedError 10 bs r × HasUnsignedDigitsIfOk bs r

-- a word that is read as a type of k bits
counted-read : {Unfit : Type 0} {said word : List ℕ} (k most : ℕ) {n : ℕ} → suc most ≡ 2 ^ k → IsRead Parses (λ m (r : Result ℕ Unfit). OkIff r (FitsUnsignedBits k (pos m)) m) most said n → said ≡ word → n ≡ counted most word
counted-read k most large read same =
    read.value ∙ unsigned-min k most read.number read.converted large read.conversion ∙ ap (λ m. min m most) read.parsed.0.1 ∙ ap (counted most) same

pub returns : goal.returns
returns c =
    let words = c.args.words.now in
    let area_word = c.as_str.ensures.value ∙ word_at words 1 c.area-item.result (omega arith) c.area-item.is in
    let a_word = c.as_str-2.ensures.value ∙ word_at words 2 c.a-item.result (omega arith) c.a-item.is in
    let b_word = c.as_str-3.ensures.value ∙ word_at words 3 c.b-item.result (omega arith) c.b-item.is in
    let c_word = c.as_str-4.ensures.value ∙ word_at words 4 c.c-item.result (omega arith) c.c-item.is in
    let inputs = c.in_ok-inputs.ensures in
    let price = c.in_ok-price.ensures in
    record {
      area = c.in_ok-area.area;
      a = c.in_ok-read.field-0;
      b = c.in_ok-read-2.field-0;
      c = c.in_ok-read-3.field-0;
      area_is = counted-read 8 255 refl c.in_ok-area.ensures area_word;
      a_is = counted-read 32 4294967295 refl c.in_ok-read.ensures a_word;
      b_is = counted-read 32 4294967295 refl c.in_ok-read-2.ensures b_word;
      c_is = counted-read 32 4294967295 refl c.in_ok-read-3.ensures c_word;
      price = c.in_ok-found.found;
      found = search rules;
      said = simp (inputs, price) at c.in_ok-format.ensures.ok;
    }
