-- Which terms are refused.
use Rattle.std.specs.Prelude.{Option}
use Rattle.account.specs.Calendars.{opening_ground}
use Rattle.account.specs.declared.fault.AccountFault.{AccountFault}
use Rattle.account.specs.declared.terms.Terms.{Terms}

-- the first ground against an opening on these terms
abbrev pub terms_ground : Terms → Option AccountFault
terms_ground t = opening_ground t.letter t.first t.lengths.now
