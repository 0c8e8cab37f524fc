-- The law of histories, as one statement.
use Rattle.std.specs.Prelude.{List}
use Rattle.account.specs.Ledger.{Opening, LawfulOpening, Ledger}
use Rattle.account.specs.History.{Entry, History, Upheld}

-- every history of calls from a lawful opening on is upheld
abbrev pub Law : Type 0
Law = (o : Opening) → LawfulOpening o → (entries : List Entry) (l : Ledger) → History o entries l → Upheld o entries l
