-- What bytes read as: a slip, the place and the bytes behind it, or the first fault. Places count the slip's bytes from 0.
use Rattle.std.specs.Prelude.{ℕ, zero, suc, ◌+◌, ◌-◌, ◌*◌, ◌/◌, ◌%◌, Bool, true, false, cond, ◌&&◌, List, [], ◌∷◌, ◌++◌, map, ℤ, pos, negsuc, Ok, Err, Result, ◌==◌, nat_eq, nat_le, nat_lt, slice_index}
use Rattle.slip.specs.Format.{Slip, opening, post, correct, strike, close}
use Rattle.slip.specs.declared.fault.SlipFault.{SlipFault}
use Rattle.slip.specs.declared.fault.SlipFault.TheVariants.{Empty, Letter, Short, Map, Zero, Rest, Months}

-- something read, with the place and the bytes behind it
abbrev pub Read : Type 0 → Type 0
Read A = Result (A × ℕ × List ℕ) SlipFault

-- reads on behind what was read
abbrev pub on : {A B : Type 0} → Read A → (A → ℕ → List ℕ → Read B) → Read B
on (Ok (a, place, rest)) next = next a place rest
on (Err fault) next = Err fault

abbrev pub byte : ℕ → List ℕ → Read ℕ
byte place [] = Err (Short place)
byte place (b ∷ bs) = Ok (b, place + 1, bs)

-- two bytes, the high one first
abbrev pub number : ℕ → List ℕ → Read ℕ
number place bs = on (byte place bs) (λ high place bs. on (byte place bs) (λ low place bs. Ok (high * 256 + low, place, bs)))

-- so many bytes
abbrev pub bytes : ℕ → ℕ → List ℕ → Read (List ℕ)
bytes zero place bs = Ok ([], place, bs)
bytes (suc n) place bs = on (byte place bs) (λ b place bs. on (bytes n place bs) (λ more place bs. Ok (b ∷ more, place, bs)))

-- the bits of a byte, the top one first
abbrev pub bits : ℕ → List Bool
bits b = map (λ bit. nat_eq (b / bit % 2) 1) (128 ∷ 64 ∷ 32 ∷ 16 ∷ 8 ∷ 4 ∷ 2 ∷ 1 ∷ [])

abbrev pub all_bits : List ℕ → List Bool
all_bits [] = []
all_bits (b ∷ bs) = bits b ++ all_bits bs

-- a figure or price: where its bit stands it is read and must not be 0, elsewhere it is 0
abbrev pub figure : Bool → ℕ → List ℕ → Read ℕ
figure false place bs = Ok (0, place, bs)
figure true place bs = on (number place bs) (λ n behind bs. cond (n == 0) (Err (Zero place)) (Ok (n, behind, bs)))

-- a number for each bit: where the bit stands it is read and must not be 0, elsewhere it is 0
abbrev pub standing : List Bool → ℕ → List ℕ → Read (List ℕ)
standing [] place bs = Ok ([], place, bs)
standing (false ∷ later) place bs = on (standing later place bs) (λ ns place bs. Ok (0 ∷ ns, place, bs))
standing (true ∷ later) place bs =
    on (number place bs) (λ n behind bs. cond (n == 0) (Err (Zero place)) (on (standing later behind bs) (λ ns place bs. Ok (n ∷ ns, place, bs))))

-- 48 figures behind their map
abbrev pub figures : ℕ → List ℕ → Read (List ℕ)
figures place bs = on (bytes 6 place bs) (λ maps place bs. standing (all_bits maps) place bs)

abbrev pub rest_mark : ℕ → List ℕ → Read Bool
rest_mark place bs =
    on (byte place bs) (λ b behind bs. cond (b == 0) (Ok (false, behind, bs)) (cond (b == 1) (Ok (true, behind, bs)) (Err (Rest place))))

-- a posting or a correction, behind its letter
abbrev pub entry : (ℕ → Bool → List ℕ → List ℕ → Slip) → List ℕ → Read Slip
entry made bs =
    on (number 1 bs) (λ day place bs.
    on (rest_mark place bs) (λ rest place bs.
    on (figures place bs) (λ used place bs.
    on (figures place bs) (λ surplus place bs. Ok (made day rest used surplus, place, bs)))))

-- a strike, behind its letter
abbrev pub struck : List ℕ → Read Slip
struck bs = on (number 1 bs) (λ day place bs. Ok (strike day, place, bs))

-- the number that two bytes stand for in two's complement
abbrev pub signed : ℕ → ℤ
signed n = cond (nat_lt n 32768) (pos n) (negsuc (65535 - n))

-- the three prices
abbrev pub closing : List ℕ → Slip
closing ns = close (record { fuel = signed (slice_index ns 0); levy = slice_index ns 1; buy = slice_index ns 2 })

-- a closing, behind its letter: the low five bits of its map have no meaning
abbrev pub prices : List ℕ → Read Slip
prices bs =
    on (byte 1 bs) (λ b place bs.
    cond (b % 32 == 0) (on (standing (bits b) place bs) (λ ns place bs. Ok (closing ns, place, bs))) (Err (Map 1)))

abbrev pub months : ℕ → List ℕ → Read ℕ
months place bs =
    on (byte place bs) (λ n behind bs. cond (nat_le 1 n && nat_le n 12) (Ok (n, behind, bs)) (Err (Months place)))

-- an opening, behind its letter
abbrev pub opened : List ℕ → Read Slip
opened bs =
    on (byte 1 bs) (λ tariff place bs.
    on (byte place bs) (λ capacity place bs.
    on (byte place bs) (λ percent place bs.
    on (byte place bs) (λ letter place bs.
    on (number place bs) (λ first place bs.
    on (months place bs) (λ count place bs.
    on (bytes count place bs) (λ lengths place bs.
    Ok (opening (record { tariff = tariff; capacity = capacity; percent = percent; letter = letter; first = first; lengths = lengths }), place, bs))))))))

abbrev pub posted : ℕ → Bool → List ℕ → List ℕ → Slip
posted day rest used surplus = post day (record { rest = rest; used = used; surplus = surplus })

abbrev pub corrected : ℕ → Bool → List ℕ → List ℕ → Slip
corrected day rest used surplus = correct day (record { rest = rest; used = used; surplus = surplus })

abbrev pub read : List ℕ → Read Slip
read [] = Err Empty
read (letter ∷ bs) =
    cond (letter == 79) (opened bs)
    (cond (letter == 80) (entry (λ day rest used surplus. post day (record { rest = rest; used = used; surplus = surplus })) bs)
    (cond (letter == 67) (entry (λ day rest used surplus. correct day (record { rest = rest; used = used; surplus = surplus })) bs)
    (cond (letter == 83) (struck bs)
    (cond (letter == 77) (prices bs) (Err Letter)))))

-- the slip and the bytes behind it, or the first fault
abbrev pub unplaced : Read Slip → Result (Slip × List ℕ) SlipFault
unplaced (Ok (slip, place, rest)) = Ok (slip, rest)
unplaced (Err fault) = Err fault

abbrev pub reads_as : List ℕ → Result (Slip × List ℕ) SlipFault
reads_as bs = unplaced (read bs)
