-- The refusals of the counter, by number and place.
use Rattle.tariff.specs.Faults.{plan_refusal}
use Rattle.tariff.specs.declared.refusal.Refusal.{Refusal}
use Rattle.account.specs.Faults.{account_refusal}
use Rattle.slip.specs.Faults.{slip_refusal}
use Rattle.counter.specs.declared.fault.CounterFault.{CounterFault}
use Rattle.counter.specs.declared.fault.CounterFault.TheVariants.{Slip, NotOpen, AlreadyOpen, Plan, Account}

abbrev pub counter_refusal : CounterFault → Refusal
counter_refusal (Slip fault) = slip_refusal fault
counter_refusal NotOpen = record { number = 17; place = 0 }
counter_refusal AlreadyOpen = record { number = 18; place = 0 }
counter_refusal (Plan fault) = plan_refusal fault
counter_refusal (Account fault) = account_refusal fault
