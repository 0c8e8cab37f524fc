-- What is printed of a fuel price.
use Rattle.std.specs.Prelude.{◌≡◌, ℕ, ◌-◌, ◌^◌, min, List, [], ◌∷◌, ◌++◌, ℤ, Ok, codes, decimal, slice_index_or}
use Rattle.std.specs.Fmt.{signed_decimal}
use Rattle.std.specs.Str.Parse.{digits_value, without_leading_plus}
use Rattle.tariff.specs.Fuel.{fuel_of, area_name}
use Rattle.tariff.specs.declared.fuel.FuelPrice.{FuelPrice}

abbrev pub inputs_line : List ℕ → ℕ → ℕ → ℕ → List ℕ
inputs_line area a b c = area ++ (codes ": inputs " ++ (decimal a ++ (codes ", " ++ (decimal b ++ (codes " and " ++ (decimal c ++ codes " yen"))))))

abbrev pub price_line : ℕ → ℤ → List ℕ
price_line average price = codes "average " ++ (decimal average ++ (codes " yen, fuel price " ++ (signed_decimal price ++ codes " sen per kWh")))

abbrev pub newline : List ℕ
newline = 10 ∷ []

-- the whole number of a word, and `most` where it is larger
abbrev pub counted : ℕ → List ℕ → ℕ
counted most word = min (digits_value 10 (without_leading_plus word)) most

-- The text is the two lines of the fuel price that the words of the command line ask for.
pub record Priced (words : List (List ℕ)) (text : List ℕ) : Type 0 where
  pub area : ℕ
  pub a : ℕ
  pub b : ℕ
  pub c : ℕ
  pub area_is : area ≡ counted (2 ^ 8 - 1) (slice_index_or words 1 [])
  pub a_is : a ≡ counted (2 ^ 32 - 1) (slice_index_or words 2 [])
  pub b_is : b ≡ counted (2 ^ 32 - 1) (slice_index_or words 3 [])
  pub c_is : c ≡ counted (2 ^ 32 - 1) (slice_index_or words 4 [])
  pub price : FuelPrice
  pub found : fuel_of area a b c ≡ Ok price
  pub said : text ≡ inputs_line (area_name price.area) a b c ++ (newline ++ (price_line price.average price.price ++ newline))
