-- Runs in bytes.
use Rattle.std.proofs.Common.{◌≡◌, ℕ, List, [], ◌∷◌, ◌++◌, codes, refl}
use Rattle.std.specs.Fmt.{digits}
use Rattle.tariff.specs.Calendar.{date}
use Rattle.counter.specs.Run.{lines, run_bytes}

abbrev feed : List ℕ
feed = 10 ∷ []

abbrev opening : List ℕ
opening = 79 ∷ 1 ∷ 10 ∷ 100 ∷ 83 ∷ 0 ∷ 0 ∷ 1 ∷ 1 ∷ []

abbrev posting : List ℕ
posting = 80 ∷ 0 ∷ 0 ∷ 0 ∷ 128 ∷ 0 ∷ 0 ∷ 0 ∷ 0 ∷ 0 ∷ 0 ∷ 100 ∷ 0 ∷ 0 ∷ 0 ∷ 0 ∷ 0 ∷ 0 ∷ []

abbrev closing : List ℕ
closing = 77 ∷ 32 ∷ 3 ∷ 32 ∷ []

abbrev correcting : List ℕ
correcting = 67 ∷ 0 ∷ 0 ∷ 0 ∷ 128 ∷ 0 ∷ 0 ∷ 0 ∷ 0 ∷ 0 ∷ 0 ∷ 200 ∷ 0 ∷ 0 ∷ 0 ∷ 0 ∷ 0 ∷ 0 ∷ []

abbrev striking : List ℕ
striking = 83 ∷ 0 ∷ 0 ∷ []

-- an account is opened, a day posted, its month closed, the day corrected, and struck too late
pub whole : run_bytes (opening ++ (posting ++ (closing ++ (correcting ++ striking)))) ≡ codes "1 O ok 0" ++ (feed ++ (codes "2 P ok 0" ++ (feed ++ (codes "3 M ok 3679" ++ (feed ++ (codes "4 C ok 20" ++ (feed ++ (codes "5 S no 25 0" ++ feed))))))))
unfolding lines digits date
whole = refl

pub nothing : run_bytes [] ≡ []
unfolding lines
nothing = refl

-- no account is open
pub unopened : run_bytes (striking ++ closing) ≡ codes "1 S no 17 0" ++ (feed ++ (codes "2 M no 17 0" ++ feed))
unfolding lines digits
unopened = refl

-- bytes that are not a slip come before that, and end the run
pub cut_short : run_bytes (striking ++ (77 ∷ 32 ∷ 3 ∷ [])) ≡ codes "1 S no 17 0" ++ (feed ++ (codes "2 M no 3 3" ++ feed))
unfolding lines digits
cut_short = refl

pub unknown_letter : run_bytes (7 ∷ striking) ≡ codes "1 ? no 2 0" ++ feed
unfolding lines digits
unknown_letter = refl
