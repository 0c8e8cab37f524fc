-- What the words of a command line order.
use Rattle.std.specs.Prelude.{◌≡◌, ℕ, ◌≤◌, List, [], map, length, drop, slice_index_or}
use Rattle.std.specs.Str.Parse.{signed_digits_value}
use Rattle.settlement.specs.declared.prices.MonthPrices.{MonthPrices}
use Rattle.bill.specs.Words.{counted, as_fuel}

-- the numbers of some words
abbrev pub all_counted : ℕ → List (List ℕ) → List ℕ
all_counted most words = map (counted most) words

-- The words are those of the command line, the first of them the program's name. The used energy has one to four words,
-- after all the others.
pub record Ordered (words : List (List ℕ)) (tariff capacity percent : ℕ) (letter : List ℕ) (prices : MonthPrices) (surplus : ℕ) (used : List ℕ) : Type 0 where
  pub tariff_is : tariff ≡ counted 255 (slice_index_or words 1 [])
  pub capacity_is : capacity ≡ counted 255 (slice_index_or words 2 [])
  pub percent_is : percent ≡ counted 255 (slice_index_or words 3 [])
  pub letter_is : letter ≡ slice_index_or words 4 []
  pub fuel_is : prices.fuel ≡ as_fuel (signed_digits_value 10 (slice_index_or words 5 []))
  pub levy_is : prices.levy ≡ counted 65535 (slice_index_or words 6 [])
  pub buy_is : prices.buy ≡ counted 65535 (slice_index_or words 7 [])
  pub surplus_is : surplus ≡ counted 4294967295 (slice_index_or words 8 [])
  pub used_is : used ≡ all_counted 4294967295 (drop 9 words)
  pub some_used : 10 ≤ length words
  pub few_used : length words ≤ 13
