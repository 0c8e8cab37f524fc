-- The limits that readings, totals and prices keep.
use Rattle.std.specs.Prelude.{ℕ, ◌+◌, ◌^◌, Bool, ◌&&◌, List, ℤ, pos, negsuc, neg_ℤ, int_le, nat_le}
use Rattle.std.specs.List.{list_all}

-- fuel −10,000 to 10,000, levy and buy 0 to 10,000, in sen per kWh
abbrev pub prices_within : ℤ → ℕ → ℕ → Bool
prices_within fuel levy buy = int_le (negsuc 9999) fuel && (int_le fuel (pos 10000) && (nat_le levy 10000 && nat_le buy 10000))

-- the figures of a half-hour are 0 to 2,500 hundredths of a kWh
abbrev pub figures_within : List ℕ → Bool
figures_within figures = list_all (λ x. nat_le x 2500) figures

-- nets stay far from the ends of their type, so that two can be subtracted
abbrev pub net_within : ℤ → Bool
net_within net = int_le (neg_ℤ (pos (2 ^ 61 + 2 ^ 40))) net && int_le net (pos (2 ^ 61 + 2 ^ 40))
