-- What an answer adds to the sum charged.
use Rattle.std.specs.Prelude.{ℤ, Result}
use Rattle.account.specs.Calls.{request_of, answer_reply}
use Rattle.account.specs.History.{charge}
use Rattle.account.specs.Replies.{reply_of}
use Rattle.account.specs.declared.call.Answer.{Answer}
use Rattle.account.specs.declared.call.Call.{Call}
use Rattle.account.specs.declared.fault.AccountFault.{AccountFault}

abbrev pub charge_of : Call → Result Answer AccountFault → ℤ
charge_of call answer = charge (request_of call, reply_of answer_reply answer)
