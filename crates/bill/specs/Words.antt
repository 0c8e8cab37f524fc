-- What the words of the command line stand for.
use Rattle.std.specs.Prelude.{ℕ, min, cond, ◌&&◌, List, [], ◌∷◌, ℤ, pos, negsuc, None, Option, int_le}
use Rattle.std.specs.Str.Parse.{signed_digits_value}
use Rattle.settlement.specs.Boxes.{box_lettered}
use Rattle.settlement.specs.declared.deposit_box.DepositBox.{DepositBox}

-- A number where it is at most `most` and not negative, and `most` itself for any other: so that a number that no rule
-- allows stays one that no rule allows.
abbrev pub at_most : ℕ → ℤ → ℕ
at_most most (pos n) = min n most
at_most most (negsuc n) = most

-- the number of a word, so bounded
abbrev pub counted : ℕ → List ℕ → ℕ
counted most word = at_most most (signed_digits_value 10 word)

-- a price that may be negative, bounded in the same way
abbrev pub as_fuel : ℤ → ℤ
as_fuel n = cond (int_le (negsuc 32767) n && int_le n (pos 32767)) n (pos 32767)

-- the deposit box of a word that is its letter
abbrev pub box_named : List ℕ → Option DepositBox
box_named [] = None
box_named (letter ∷ []) = box_lettered letter
box_named (letter ∷ (next ∷ rest)) = None
