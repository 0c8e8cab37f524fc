-- Tables of steps: the price of each kWh of a class.
use Rattle.std.specs.Prelude.{◌≡◌, ℕ, ◌<◌, Bool, true, false, cond, ◌&&◌, List, [], ◌∷◌, length, Some, None, Option, nat_le, nat_lt, slice_index_or}
use Rattle.std.specs.List.{slice_get}

-- where a step ends, in kWh (the last has no end), and its price in sen
abbrev pub Step : Type 0
Step = Option ℕ × ℕ

-- The steps behind one that ends at `from`: each ends higher than the one before it and by 99,999,
-- only the last has no end, and no price is above 20,000.
abbrev pub rising : ℕ → List Step → Bool
rising from [] = false
rising from ((None, price) ∷ []) = nat_le price 20000
rising from ((None, price) ∷ (next ∷ rest)) = false
rising from ((Some end, price) ∷ rest) = nat_lt from end && (nat_le end 99999 && (nat_le price 20000 && rising end rest))

-- a table of 1 to 4 steps
abbrev pub right_table : List Step → Bool
right_table steps = nat_le (length steps) 4 && rising 0 steps

-- the price of kWh number k, counted from 0: that of the first step whose end is above k
abbrev pub price_in : List Step → ℕ → Option ℕ
price_in [] k = None
price_in ((None, price) ∷ rest) k = Some price
price_in ((Some end, price) ∷ rest) k = cond (nat_lt k end) (Some price) (price_in rest k)

-- the same by class; a class that does not exist has no steps
abbrev pub price_of : List (List Step) → ℕ → ℕ → Option ℕ
price_of tables class k = price_in (slice_index_or tables class []) k

-- a step by its class and its place in the class's table
abbrev pub step_at : List (List Step) → ℕ → ℕ → Option Step
step_at tables class i = slice_get (slice_index_or tables class []) i

-- whether a step's end lies above kWh number k
abbrev pub above : Option ℕ → ℕ → Bool
above None k = true
above (Some end) k = nat_lt k end

-- the price of kWh number k is that of the first of the steps whose end is above k
pub record FirstAbove (steps : List Step) (k : ℕ) (price : Option ℕ) : Type 0 where
  pub place : ℕ
  pub step : Step
  pub there : slice_get steps place ≡ Some step
  pub ends_above : above step.0 k ≡ true
  pub none_before : (i : ℕ) (earlier : Step) → i < place → slice_get steps i ≡ Some earlier → above earlier.0 k ≡ false
  pub priced : price ≡ Some step.1
