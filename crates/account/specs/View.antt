-- What an account stands for: the opening it was made with, and its ledger.
use Rattle.std.specs.Prelude.{ℕ, List, map, take}
use Rattle.tariff.specs.Meaning.{Meaning}
use Rattle.tariff.specs.Steps.{Step}
use Rattle.settlement.specs.Prices.{prices_of}
use Rattle.account.specs.Ledger.{Opening, Ledger}
use Rattle.account.specs.Standing.{standing_in}
use Rattle.account.specs.declared.account.Account.{Account}
use Rattle.account.specs.declared.calendar.Calendar.{Calendar}

abbrev pub lengths_of : Calendar → List ℕ
lengths_of c = take c.months c.lengths

-- by the meaning and the tables of supplies
abbrev pub opening_of : {S : Type 0} → (S → Meaning) → (S → List (List Step)) → Account S → Opening
opening_of whole tables a = record {
  meaning = whole a.supply;
  tables = tables a.supply;
  box = a.deposit_box;
  first = a.calendar.first;
  lengths = lengths_of a.calendar;
}

abbrev pub ledger_of : {S : Type 0} → Account S → Ledger
ledger_of a = record { standing = standing_in a.table.days; closed = map prices_of a.closed.items }
