-- The format of slips: what each one is in bytes.
use Rattle.std.specs.Prelude.{ℕ, zero, suc, ◌+◌, ◌-◌, ◌/◌, ◌%◌, cond, List, [], ◌∷◌, ◌++◌, length, take, drop, ℤ, pos, negsuc, codes, ◌==◌}
use Rattle.settlement.specs.declared.prices.MonthPrices.{MonthPrices}
use Rattle.settlement.specs.Totals.{Figures}

-- what an opening is handed
pub record Opening : Type 0 where
  pub tariff : ℕ
  pub capacity : ℕ
  pub percent : ℕ
  pub letter : ℕ
  pub first : ℕ
  pub lengths : List ℕ

-- the slips: an opening, and the calls that come as slips
pub data Slip : Type 0 where
  opening : Opening → Slip
  post correct : ℕ → Figures → Slip
  strike : ℕ → Slip
  close : MonthPrices → Slip

-- a number in two bytes, the high one first
abbrev pub two_bytes : ℕ → List ℕ
two_bytes n = n / 256 ∷ n % 256 ∷ []

-- a map's byte of up to eight numbers: the first has the top bit, which stands where the number is not 0
abbrev pub map_byte : ℕ → List ℕ → ℕ
map_byte bit [] = 0
map_byte bit (n ∷ ns) = cond (n == 0) 0 bit + map_byte (bit / 2) ns

-- so many bytes of a map
abbrev pub map_bytes : ℕ → List ℕ → List ℕ
map_bytes zero ns = []
map_bytes (suc bytes) ns = map_byte 128 (take 8 ns) ∷ map_bytes bytes (drop 8 ns)

-- the numbers that are not 0
abbrev pub standing_bytes : List ℕ → List ℕ
standing_bytes [] = []
standing_bytes (n ∷ ns) = cond (n == 0) [] (two_bytes n) ++ standing_bytes ns

-- numbers behind their map: absent means 0
abbrev pub packed : ℕ → List ℕ → List ℕ
packed bytes ns = map_bytes bytes ns ++ standing_bytes ns

abbrev pub entry_bytes : ℕ → Figures → List ℕ
entry_bytes day f = two_bytes day ++ (cond f.rest 1 0 ∷ (packed 6 f.used ++ packed 6 f.surplus))

abbrev pub opening_bytes : Opening → List ℕ
opening_bytes o =
    o.tariff ∷ o.capacity ∷ o.percent ∷ o.letter ∷ (two_bytes o.first ++ (length o.lengths ∷ o.lengths))

-- two's complement in 16 bits
abbrev pub complement : ℤ → ℕ
complement (pos n) = n
complement (negsuc n) = 65535 - n

-- the format
abbrev pub slip_bytes : Slip → List ℕ
slip_bytes (opening o) = codes "O" ++ opening_bytes o
slip_bytes (post day f) = codes "P" ++ entry_bytes day f
slip_bytes (correct day f) = codes "C" ++ entry_bytes day f
slip_bytes (strike day) = codes "S" ++ two_bytes day
slip_bytes (close p) = codes "M" ++ packed 1 (complement p.fuel ∷ p.levy ∷ p.buy ∷ [])
