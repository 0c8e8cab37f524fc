-- Slips in bytes, and bytes as slips.
use Rattle.std.proofs.Common.{◌≡◌, ℕ, true, List, [], ◌∷◌, ◌++◌, replicate, negsuc, Ok, Err, refl}
use Rattle.slip.specs.Format.{Slip, opening, post, strike, close, slip_bytes}
use Rattle.slip.specs.Reading.{read}
use Rattle.slip.specs.declared.fault.SlipFault.TheVariants.{Empty, Letter, Short, Map, Zero, Rest, Months}

-- 90 hundredths at the second half-hour
abbrev used : List ℕ
used = 0 ∷ 90 ∷ replicate 46 0

abbrev none : List ℕ
none = replicate 48 0

abbrev posting : Slip
posting = post 258 (record { rest = true; used = used; surplus = none })

abbrev posting_bytes : List ℕ
posting_bytes = 80 ∷ 1 ∷ 2 ∷ 1 ∷ 64 ∷ 0 ∷ 0 ∷ 0 ∷ 0 ∷ 0 ∷ 0 ∷ 90 ∷ 0 ∷ 0 ∷ 0 ∷ 0 ∷ 0 ∷ 0 ∷ []

pub posting_writes : slip_bytes posting ≡ posting_bytes
posting_writes = refl

pub posting_reads : read (posting_bytes ++ 7 ∷ []) ≡ Ok (posting, 18, 7 ∷ [])
posting_reads = refl

-- fuel -2 and buy 800, no levy
abbrev closing : Slip
closing = close (record { fuel = negsuc 1; levy = 0; buy = 800 })

abbrev closing_bytes : List ℕ
closing_bytes = 77 ∷ 160 ∷ 255 ∷ 254 ∷ 3 ∷ 32 ∷ []

pub closing_writes : slip_bytes closing ≡ closing_bytes
closing_writes = refl

pub closing_reads : read closing_bytes ≡ Ok (closing, 6, [])
closing_reads = refl

abbrev an_opening : Slip
an_opening = opening (record { tariff = 1; capacity = 10; percent = 100; letter = 83; first = 0; lengths = 1 ∷ 35 ∷ [] })

abbrev an_opening_bytes : List ℕ
an_opening_bytes = 79 ∷ 1 ∷ 10 ∷ 100 ∷ 83 ∷ 0 ∷ 0 ∷ 2 ∷ 1 ∷ 35 ∷ []

pub opening_writes : slip_bytes an_opening ≡ an_opening_bytes
opening_writes = refl

pub opening_reads : read an_opening_bytes ≡ Ok (an_opening, 10, [])
opening_reads = refl

pub strike_reads : read (slip_bytes (strike 300) ++ 80 ∷ []) ≡ Ok (strike 300, 3, 80 ∷ [])
strike_reads = refl

-- each refusal, at its place
pub no_bytes : read [] ≡ Err Empty
no_bytes = refl

pub other_letter : read (112 ∷ []) ≡ Err Letter
other_letter = refl

pub cut_short : read (77 ∷ 160 ∷ 255 ∷ 254 ∷ 3 ∷ []) ≡ Err (Short 5)
cut_short = refl

pub low_map_bit : read (77 ∷ 1 ∷ []) ≡ Err (Map 1)
low_map_bit = refl

pub zero_price : read (77 ∷ 160 ∷ 255 ∷ 254 ∷ 0 ∷ 0 ∷ []) ≡ Err (Zero 4)
zero_price = refl

pub other_rest : read (80 ∷ 0 ∷ 0 ∷ 2 ∷ []) ≡ Err (Rest 3)
other_rest = refl

pub thirteen_months : read (79 ∷ 1 ∷ 10 ∷ 100 ∷ 83 ∷ 0 ∷ 0 ∷ 13 ∷ []) ≡ Err (Months 7)
thirteen_months = refl
