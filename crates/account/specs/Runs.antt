-- A list of calls made in order.
use Rattle.std.specs.Prelude.{◌≡◌, List, [], ◌∷◌, ◌++◌, length, Some, None, Ok, Err, vec_items, Result}
use Rattle.tariff.specs.Meaning.{Meaning}
use Rattle.tariff.specs.Steps.{Step}
use Rattle.settlement.specs.Boxes.{box_lettered}
use Rattle.account.specs.Openings.{terms_ground}
use Rattle.account.specs.Calls.{request_of, answer_reply}
use Rattle.account.specs.History.{Entry, History, Upheld}
use Rattle.account.specs.Replies.{reply_of, Stays}
use Rattle.account.specs.View.{lengths_of, opening_of, ledger_of}
use Rattle.account.specs.declared.account.Account.{Account}
use Rattle.account.specs.declared.call.Answer.{Answer}
use Rattle.account.specs.declared.call.Call.{Call}
use Rattle.account.specs.declared.fault.AccountFault.{AccountFault}
use Rattle.account.specs.declared.terms.Terms.{Terms}
use Rattle.account.specs.declared.replay.Replayed.{Replayed}
use Rattle.account.specs.declared.replay.ReplayFault.{ReplayFault}
use Rattle.account.specs.declared.replay.ReplayFault.TheVariants.{Refused, OutOfMemory}

-- each call with its answer
abbrev pub entries_of : List Call → List (Result Answer AccountFault) → List Entry
entries_of [] answers = []
entries_of (call ∷ calls) [] = []
entries_of (call ∷ calls) (answer ∷ answers) = (request_of call, reply_of answer_reply answer) ∷ entries_of calls answers

-- calls that lead from one account to another, each with its right answer
pub record Ran {S : Type 0} (whole : S → Meaning) (tables : S → List (List Step)) (a b : Account S) (calls : List Call) (answers : List (Result Answer AccountFault)) : Type 0 where
  pub an_answer_each : length answers ≡ length calls
  pub opening : Stays a b
  pub history : (entries : List Entry) → History (opening_of whole tables a) entries (ledger_of a) → History (opening_of whole tables a) (entries ++ entries_of calls answers) (ledger_of b)

-- an account opened as handed, and all the calls made on it: their history, and the law of it
pub record Replays {S : Type 0} (whole : S → Meaning) (tables : S → List (List Step)) (supply : S) (t : Terms) (calls : List Call) (r : Replayed S) : Type 0 where
  pub no_ground : terms_ground t ≡ None
  pub same_supply : r.account.supply ≡ supply
  pub box_chosen : box_lettered t.letter ≡ Some r.account.deposit_box
  pub same_first : r.account.calendar.first ≡ t.first
  pub same_lengths : lengths_of r.account.calendar ≡ t.lengths.now
  pub an_answer_each : length (vec_items r.answers) ≡ length calls
  pub history : History (opening_of whole tables r.account) (entries_of calls (vec_items r.answers)) (ledger_of r.account)
  pub upheld : Upheld (opening_of whole tables r.account) (entries_of calls (vec_items r.answers)) (ledger_of r.account)

-- refused exactly where a ground holds against the opening; want of memory says nothing
abbrev pub ReplayAnswer : {S : Type 0} → (S → Meaning) → (S → List (List Step)) → S → Terms → List Call → Result (Replayed S) ReplayFault → Type 0
ReplayAnswer whole tables supply t calls (Ok r) = Replays whole tables supply t calls r
ReplayAnswer whole tables supply t calls (Err (Refused fault)) = terms_ground t ≡ Some fault
ReplayAnswer whole tables supply t calls (Err OutOfMemory) = terms_ground t ≡ None
