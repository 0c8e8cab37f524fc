-- Lines in bytes.
use Rattle.std.proofs.Common.{◌≡◌, [], ◌∷◌, ◌++◌, length, pos, negsuc, Ok, Err, codes, refl}
use Rattle.std.specs.Fmt.{digits}
use Rattle.line.specs.Lines.{line_bytes}

pub opened : line_bytes (record { number = 1; letter = 79; outcome = Ok (pos 0) }) ≡ codes "1 O ok 0" ++ (10 ∷ [])
unfolding digits
opened = refl

pub closed : line_bytes (record { number = 3; letter = 77; outcome = Ok (pos 3679) }) ≡ codes "3 M ok 3679" ++ (10 ∷ [])
unfolding digits
closed = refl

pub below_zero : line_bytes (record { number = 12; letter = 77; outcome = Ok (negsuc 19) }) ≡ codes "12 M ok -20" ++ (10 ∷ [])
unfolding digits
below_zero = refl

pub refused : line_bytes (record { number = 5; letter = 83; outcome = Err (record { number = 25; place = 0 }) }) ≡ codes "5 S no 25 0" ++ (10 ∷ [])
unfolding digits
refused = refl

-- the lowest amount
pub lowest : line_bytes (record { number = 999999; letter = 77; outcome = Ok (negsuc 9223372036854775807) }) ≡ codes "999999 M ok -9223372036854775808" ++ (10 ∷ [])
unfolding digits
lowest = refl

pub longest : length (line_bytes (record { number = 999999; letter = 77; outcome = Ok (negsuc 9223372036854775807) })) ≡ 33
unfolding digits
longest = refl
