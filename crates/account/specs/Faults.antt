-- The refusals of the account, by number and place: the account day where a day is refused.
use Rattle.tariff.specs.declared.refusal.Refusal.{Refusal}
use Rattle.settlement.specs.declared.fault.MonthFault.{MonthFault}
use Rattle.settlement.specs.declared.fault.MonthFault.TheVariants as month
use Rattle.account.specs.declared.fault.AccountFault.{AccountFault}
use Rattle.account.specs.declared.fault.AccountFault.TheVariants.{UnknownBox, Months, Length, LastDay, Beyond, Figures, Figure, Posted, NotPosted, Closed, AllClosed, Price, Missing, NotClosed}

abbrev pub account_refusal : AccountFault → Refusal
account_refusal UnknownBox = record { number = 13; place = 0 }
account_refusal Months = record { number = 14; place = 0 }
account_refusal Length = record { number = 15; place = 0 }
account_refusal LastDay = record { number = 16; place = 0 }
account_refusal (Beyond day) = record { number = 20; place = day }
account_refusal Figures = record { number = 21; place = 0 }
account_refusal (Figure day) = record { number = 22; place = day }
account_refusal (Posted day) = record { number = 23; place = day }
account_refusal (NotPosted day) = record { number = 24; place = day }
account_refusal (Closed day) = record { number = 25; place = day }
account_refusal AllClosed = record { number = 26; place = 0 }
account_refusal Price = record { number = 27; place = 0 }
account_refusal (Missing day) = record { number = 28; place = day }
account_refusal NotClosed = record { number = 29; place = 0 }

-- the account's fault where a month's is met
abbrev pub month_fault : MonthFault → AccountFault
month_fault month.UnknownBox = UnknownBox
month_fault month.Price = Price
