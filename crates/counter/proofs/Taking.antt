-- A slip's call on an open account: what the counter answers of the account's reply, and the book after it.
use Rattle.std.proofs.Common.{◌≡◌, List, ℤ, Some, None, Ok, Err, Option, Result, sym, refl, ap, ◌∙◌}
use Rattle.std.specs.Option.{option_map}
use Rattle.tariff.specs.Meaning.{Meaning}
use Rattle.tariff.specs.Steps.{Step}
use Rattle.account.specs.History.{Reply, refused, done, difference, settled, Answered, charge}
use Rattle.account.specs.Ledger.{Opening, Ledger, Request, post, correct, strike, draft, close, show, net_in, request_ground, after}
use Rattle.account.specs.Ledger as ledger
use Rattle.account.specs.Replies.{Keeps}
use Rattle.account.specs.declared.account.Account.{Account}
use Rattle.account.specs.declared.fault.AccountFault.{AccountFault}
use Rattle.account.specs.View.{opening_of, ledger_of}
use Rattle.account.proofs.Running.{same_opening}
use Rattle.slip.specs.Format.{Slip}
use Rattle.counter.specs.Book.{Book, Asked, a_call, asked, ground_against, granted, unless_refused, turned, yen_of, yen_asked, answered, outcome}
use Rattle.counter.specs.View.{entry_of}
use Rattle.counter.specs.declared.fault.CounterFault.{CounterFault}
use Rattle.counter.specs.declared.fault.CounterFault.TheVariants.{Account as ByAccount}

-- what the counter answers of a reply to a call
abbrev pub told : Request → Reply → Result ℤ CounterFault
told r (refused fault) = Err (ByAccount fault)
told r done = Ok (charge (r, done))
told r (difference yen) = Ok (charge (r, difference yen))
told r (settled n lines) = Ok (charge (r, settled n lines))

module _ (o : Opening) (l : Ledger) where
  -- of the right reply it is the right answer
  pub told_right : (r : Request) (reply : Reply) (g : Option AccountFault) → Answered g o l r reply → told r reply ≡ answered (option_map ByAccount g) (yen_of o l r)
  told_right r reply (Some fault) a = ap (told r) a
  told_right (post day f) reply None a = ap (told (post day f)) a
  told_right (correct day f) reply None a = ap (told (correct day f)) a
  told_right (strike day) reply None a = ap (told (strike day)) a
  told_right (draft p) reply None a = ap (told (draft p)) a.3
  told_right (close p) reply None a = ap (told (close p)) a.3 ∙ ap (λ numbers. Ok (net_in numbers)) (sym a.2)
  told_right (show month) reply None a = ap (told (show month)) a.3

  -- the book after a call has the ledger after it
  pub after_turned : (r : Request) (g : Option AccountFault) → ◌≡◌ {A = Book} (Some (o, ledger.unless_refused g l (ledger.done l r))) (unless_refused (option_map ByAccount g) (Some (o, l)) (Some (o, ledger.done l r)))
  after_turned r None = refl
  after_turned r (Some fault) = refl

module _ {S : Type 0} (whole : S → Meaning) (tables : S → List (List Step)) (a b : Account S) (s : Slip) (r : Request) (reply : Reply) (is : asked s ≡ a_call r) (k : Keeps whole tables a b r reply) where
  pub answers : told r reply ≡ outcome (Some (entry_of whole tables a)) s
  answers =
      let o = opening_of whole tables a in
      let l = ledger_of a in
      told_right o l r reply (request_ground o l r) k.law.answers
      ∙ ap (λ (x : Asked). answered (ground_against (Some (o, l)) x) (yen_asked (Some (o, l)) x)) (sym is)

  pub turns : ◌≡◌ {A = Book} (Some (entry_of whole tables b)) (turned (Some (entry_of whole tables a)) s)
  turns =
      let o = opening_of whole tables a in
      let l = ledger_of a in
      let leads : ◌≡◌ {A = Book} (Some (entry_of whole tables b)) (Some (o, after o l r)) = λ i. Some (same_opening whole tables a b k.opening i, k.law.ledger i) in
      leads
      ∙ after_turned o l r (request_ground o l r)
      ∙ ap (λ (x : Asked). unless_refused (ground_against (Some (o, l)) x) (Some (o, l)) (granted (Some (o, l)) x)) (sym is)
