-- The number of a word of the command line.
use Rattle.std.specs.Prelude.{◌≡◌, List, ℕ, Result, Ok}
use Rattle.std.specs.Result.{result_unwrap_or}

-- the word is read as a number, which is converted to n; where it cannot be, n is `most`
pub record IsRead {N Wrong T Unfit : Type 0} (parses : List ℕ → Result N Wrong → Type 0) (converts : N → Result T Unfit → Type 0) (most : T) (word : List ℕ) (n : T) : Type 0 where
  pub number : N
  pub parsed : parses word (Ok number)
  pub converted : Result T Unfit
  pub conversion : converts number converted
  pub value : n ≡ result_unwrap_or converted most
