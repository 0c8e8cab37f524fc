-- Calls and answers of the code, as the ledger has them.
use Rattle.settlement.specs.Handed.{figures_in}
use Rattle.account.specs.History.{Reply, done, difference}
use Rattle.account.specs.Ledger.{Request, post, correct, strike, draft, close, show}
use Rattle.account.specs.Replies.{settlement_reply}
use Rattle.account.specs.declared.call.Answer.{Answer}
use Rattle.account.specs.declared.call.Answer.TheVariants.{Done, Difference, Settled}
use Rattle.account.specs.declared.call.Call.{Call}
use Rattle.account.specs.declared.call.Call.TheVariants.{Post, Correct, Strike, Draft, Show, Close}

abbrev pub request_of : Call → Request
request_of (Post day figures) = post day (figures_in figures)
request_of (Correct day figures) = correct day (figures_in figures)
request_of (Strike day) = strike day
request_of (Draft prices) = draft prices
request_of (Show month) = show month
request_of (Close prices) = close prices

abbrev pub answer_reply : Answer → Reply
answer_reply Done = done
answer_reply (Difference yen) = difference yen
answer_reply (Settled s) = settlement_reply s
