-- Words of a command line, and the numbers that are read of them.
use Rattle.std.proofs.Common.{◌≡◌, ℕ, suc, ◌^◌, ◌<◌, min, List, [], map, length, get_or, pos, Ok, Err, Result, string_bytes, String, sym, ap, ◌∙◌, arith}
use Rattle.std.proofs.lemmas.List.{get_or-map}
use Rattle.std.specs.Int.{FitsUnsignedBits}
use Rattle.std.specs.Result.{OkIff, result_unwrap_or}

-- the text of a word that stands in its place
pub word_at : {Z : Type 0} (words : List (String Z)) (i : ℕ) (word : String Z) → i < length words → word ≡ get_or words i word → string_bytes word ≡ get_or (map string_bytes words) i []
word_at words i word h e = ap string_bytes e ∙ sym (get_or-map string_bytes words i word [] h)

-- a number as an unsigned type of k bits takes it, where any that it does not hold becomes its largest
pub unsigned-min : {E : Type 0} (k most n : ℕ) (r : Result ℕ E) → suc most ≡ 2 ^ k → OkIff r (FitsUnsignedBits k (pos n)) n → result_unwrap_or r most ≡ min n most
unsigned-min k most n (Ok x) e h = omega arith
unsigned-min k most n (Err x) e h = omega arith
