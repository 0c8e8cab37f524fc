-- The grounds against writing, in their order.
use Rattle.std.proofs.Common.{◌≡◌, ℕ, false, replicate, pos, Some, None, refl}
use Rattle.slip.specs.Format.{Slip, opening, post, strike, close}
use Rattle.slip.specs.Writing.{writing_ground}
use Rattle.slip.specs.declared.fault.WritingFault.TheVariants.{Months, Figures, Buffer}

-- so many months of 30 days
abbrev of_months : ℕ → Slip
of_months n = opening (record { tariff = 1; capacity = 10; percent = 100; letter = 83; first = 0; lengths = replicate n 30 })

pub no_months : writing_ground (of_months 0) 0 ≡ Some Months
no_months = refl

pub thirteen_months : writing_ground (of_months 13) 100 ≡ Some Months
thirteen_months = refl

pub twelve_months : writing_ground (of_months 12) 20 ≡ None
twelve_months = refl

-- so many figures, all 0
abbrev of_figures : ℕ → ℕ → Slip
of_figures used surplus = post 3 (record { rest = false; used = replicate used 0; surplus = replicate surplus 0 })

pub figures_before_buffer : writing_ground (of_figures 48 47) 0 ≡ Some Figures
figures_before_buffer = refl

pub sixteen_bytes : writing_ground (of_figures 48 48) 16 ≡ None
sixteen_bytes = refl

pub fifteen_bytes : writing_ground (of_figures 48 48) 15 ≡ Some Buffer
fifteen_bytes = refl

-- a closing without prices
pub two_bytes_left : writing_ground (close (record { fuel = pos 0; levy = 0; buy = 0 })) 2 ≡ None
two_bytes_left = refl

pub strike_short : writing_ground (strike 258) 2 ≡ Some Buffer
strike_short = refl
