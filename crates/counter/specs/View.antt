-- The book that a counter stands for.
use Rattle.std.specs.Prelude.{List}
use Rattle.std.specs.Option.{option_map}
use Rattle.tariff.specs.Meaning.{Meaning}
use Rattle.tariff.specs.Plans.{plan_meaning, plan_tables}
use Rattle.tariff.specs.Steps.{Step}
use Rattle.tariff.specs.declared.discount.Discount.{Discount}
use Rattle.tariff.specs.declared.night.Night.{Night as NightTariff}
use Rattle.tariff.specs.declared.plan.ByTariff.{ByTariff}
use Rattle.tariff.specs.declared.plan.ByTariff.TheVariants.{Standard, Night, Seasonal}
use Rattle.tariff.specs.declared.seasonal.Seasonal.{Seasonal as SeasonalTariff}
use Rattle.tariff.specs.declared.standard.Standard.{Standard as StandardTariff}
use Rattle.account.specs.Ledger.{Opening, Ledger}
use Rattle.account.specs.View.{opening_of, ledger_of}
use Rattle.account.specs.declared.account.Account.{Account}
use Rattle.counter.specs.Book.{Book}
use Rattle.counter.specs.declared.counter.Counter.{Counter}

-- what an account was opened with, and its ledger, over a supply of this meaning and these tables
abbrev pub entry_of : {S : Type 0} → (S → Meaning) → (S → List (List Step)) → Account S → Opening × Ledger
entry_of whole tables a = (opening_of whole tables a, ledger_of a)

-- the same of whichever of three is there
abbrev pub by_tariff : {A B C X : Type 0} → (A → X) → (B → X) → (C → X) → ByTariff A B C → X
by_tariff f g h (Standard a) = f a
by_tariff f g h (Night b) = g b
by_tariff f g h (Seasonal c) = h c

-- what an account at the counter was opened with, and its ledger
abbrev pub account_entry : ByTariff (Account (Discount StandardTariff)) (Account (Discount NightTariff)) (Account (Discount SeasonalTariff)) → Opening × Ledger
account_entry =
    by_tariff
    (entry_of (λ d. plan_meaning (Standard d)) (λ d. plan_tables (Standard d)))
    (entry_of (λ d. plan_meaning (Night d)) (λ d. plan_tables (Night d)))
    (entry_of (λ d. plan_meaning (Seasonal d)) (λ d. plan_tables (Seasonal d)))

abbrev pub book_of : Counter → Book
book_of c = option_map account_entry c.account
