-- Prices as handed in, and those that keep their limits.
use Rattle.std.specs.Prelude.{◌≡◌, true, false, Result, MatchResult}
use Rattle.settlement.specs.Limits.{prices_within}
use Rattle.settlement.specs.declared.fault.MonthFault.{MonthFault}
use Rattle.settlement.specs.declared.fault.MonthFault.TheVariants.{Price}
use Rattle.settlement.specs.declared.prices.MonthPrices.{MonthPrices}
use Rattle.settlement.specs.declared.prices.Prices.{Prices}

-- what prices held
abbrev pub prices_of : Prices → MonthPrices
prices_of p = record { fuel = p.fuel; levy = p.levy; buy = p.buy }

-- they are those handed in, if these keep their limits, and else refused
abbrev pub PricesGiven : MonthPrices → Result Prices MonthFault → Type 0
PricesGiven given r =
    MatchResult r
    (λ p. (prices_of p ≡ given) × (prices_within given.fuel given.levy given.buy ≡ true))
    (λ f. (f ≡ Price) × (prices_within given.fuel given.levy given.buy ≡ false))
