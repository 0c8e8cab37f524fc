-- Rounding half-up: the one definition that every rounded number goes by.
use Rattle.std.specs.Prelude.{ℕ, ◌+◌, ◌*◌, ◌/◌, ◌%◌, cond, nat_le}

-- n / d to a whole number: a fraction of one half or more goes up
abbrev pub half_up : ℕ → ℕ → ℕ
half_up n d = cond (nat_le d (2 * (n % d))) (n / d + 1) (n / d)
