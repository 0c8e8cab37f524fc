-- Reading and the format are each other's inverse.
use Rattle.std.specs.Prelude.{◌≡◌, ℕ, ◌<◌, ◌≤◌, List, ◌++◌, length, ℤ, pos, negsuc, Ok}
use Rattle.std.specs.List.{All}
use Rattle.settlement.specs.declared.prices.MonthPrices.{MonthPrices}
use Rattle.settlement.specs.Totals.{Figures}
use Rattle.slip.specs.Format.{Slip, Opening, opening, post, correct, strike, close, slip_bytes}
use Rattle.slip.specs.Reading.{reads_as}

-- in one byte, in two, and in two as two's complement
abbrev pub One : ℕ → Type 0
One n = n < 256

abbrev pub Two : ℕ → Type 0
Two n = n < 65536

abbrev pub SignedTwo : ℤ → Type 0
SignedTwo (pos n) = n < 32768
SignedTwo (negsuc n) = n < 32768

abbrev pub FortyEight : List ℕ → Type 0
FortyEight ns = (length ns ≡ 48) × All Two ns

pub record OpeningFits (o : Opening) : Type 0 where
  pub tariff : One o.tariff
  pub capacity : One o.capacity
  pub percent : One o.percent
  pub letter : One o.letter
  pub first : Two o.first
  pub some_month : 1 ≤ length o.lengths
  pub few_months : length o.lengths ≤ 12
  pub lengths : All One o.lengths

pub record EntryFits (day : ℕ) (f : Figures) : Type 0 where
  pub day_fits : Two day
  pub used : FortyEight f.used
  pub surplus : FortyEight f.surplus

pub record PricesFit (p : MonthPrices) : Type 0 where
  pub fuel : SignedTwo p.fuel
  pub levy : Two p.levy
  pub buy : Two p.buy

-- what the format can hold, out of range or not
abbrev pub Fits : Slip → Type 0
Fits (opening o) = OpeningFits o
Fits (post day f) = EntryFits day f
Fits (correct day f) = EntryFits day f
Fits (strike day) = Two day
Fits (close p) = PricesFit p

-- bytes read as a slip and a rest exactly when they are that slip's bytes followed by that rest
pub record Exact (bs : List ℕ) : Type 0 where
  pub reads : (s : Slip) (rest : List ℕ) → Fits s → bs ≡ slip_bytes s ++ rest → reads_as bs ≡ Ok (s, rest)
  pub is_read : (s : Slip) (rest : List ℕ) → reads_as bs ≡ Ok (s, rest) → (bs ≡ slip_bytes s ++ rest) × Fits s
