-- Calls made one after the other make a history.
use Rattle.std.proofs.Common.{◌≡◌, ◌+◌, List, [], ◌∷◌, ◌++◌, length, Some, vec_items, Result, sym, refl, ap, ◌∙◌, subst, append_assoc, append-nil, arith}
use Rattle.std.proofs.lemmas.List.{length_push}
use Rattle.tariff.specs.Meaning.{Meaning, Lawful}
use Rattle.tariff.specs.Steps.{Step}
use Rattle.account.specs.Calls.{request_of, answer_reply}
use Rattle.account.specs.History.{Entry, Reply, History, opened, called, Kept}
use Rattle.account.specs.Ledger.{Opening, Ledger, Request}
use Rattle.account.specs.Replies.{reply_of, Stays, Keeps, Opened}
use Rattle.account.specs.Runs.{entries_of, Ran, Replays}
use Rattle.account.specs.View.{lengths_of, opening_of, ledger_of}
use Rattle.account.specs.declared.account.Account.{Account}
use Rattle.account.specs.declared.calendar.Calendar.{Calendar}
use Rattle.account.specs.declared.call.Answer.{Answer}
use Rattle.account.specs.declared.call.Call.{Call}
use Rattle.account.specs.declared.fault.AccountFault.{AccountFault}
use Rattle.account.specs.declared.replay.Replayed.{Replayed}
use Rattle.account.specs.declared.terms.Terms.{Terms}
use Rattle.account.proofs.Calls.{opening_lawful}
use Rattle.account.proofs.Upholding.{upheld}

-- what a call is told
abbrev Told : Type 0
Told = Result Answer AccountFault

entries_push : (calls : List Call) (answers : List Told) (call : Call) (answer : Told) → length answers ≡ length calls → entries_of (calls ++ call ∷ []) (answers ++ answer ∷ []) ≡ entries_of calls answers ++ (request_of call, reply_of answer_reply answer) ∷ []
entries_push [] [] call answer e = refl
entries_push [] (y ∷ answers) call answer e = absurd (omega arith)
entries_push (x ∷ calls) [] call answer e = absurd (omega arith)
entries_push (x ∷ calls) (y ∷ answers) call answer e = ap (λ rest. (request_of x, reply_of answer_reply y) ∷ rest) (entries_push calls answers call answer (omega arith))

-- a call extends any history that led to its account
extended : (o : Opening) (entries : List Entry) (l next : Ledger) (r : Request) (reply : Reply) → Kept o l r reply next → History o entries l → History o (entries ++ (r, reply) ∷ []) next
extended o entries l next r reply k h = subst (History o (entries ++ (r, reply) ∷ [])) (sym k.ledger) (called r reply h k.answers)

module _ {S : Type 0} (whole : S → Meaning) (tables : S → List (List Step)) where
  -- what an account was opened with stays what it was opened with
  pub same_opening : (a b : Account S) → Stays a b → opening_of whole tables b ≡ opening_of whole tables a
  same_opening a b s = λ i. record { meaning = whole (s.same_supply i); tables = tables (s.same_supply i); box = s.same_box i; first = (s.same_calendar i).first; lengths = lengths_of (s.same_calendar i) }

  pub ran_none : (a : Account S) → Ran whole tables a a [] []
  ran_none a = record {
    an_answer_each = refl;
    opening = record { same_supply = refl; same_box = refl; same_calendar = refl };
    history = λ entries h. subst (λ es. History (opening_of whole tables a) es (ledger_of a)) (sym (append-nil entries)) h;
  }

  pub ran_more : (a b d : Account S) (calls more : List Call) (answers next : List Told) (call : Call) (answer : Told) → Ran whole tables a b calls answers → Keeps whole tables b d (request_of call) (reply_of answer_reply answer) → more ≡ calls ++ call ∷ [] → next ≡ answers ++ answer ∷ [] → Ran whole tables a d more next
  ran_more a b d calls more answers next call answer ran k more-is next-is =
      let o = opening_of whole tables a in
      let step = subst (λ (x : Opening). Kept x (ledger_of b) (request_of call) (reply_of answer_reply answer) (ledger_of d)) (same_opening a b ran.opening) k.law in
      let listed : entries_of more next ≡ entries_of calls answers ++ (request_of call, reply_of answer_reply answer) ∷ [] =
      (λ i. entries_of (more-is i) (next-is i)) ∙ entries_push calls answers call answer ran.an_answer_each in
      record {
        an_answer_each = ap length next-is ∙ length_push answers answer ∙ ap (λ n. n + 1) ran.an_answer_each ∙ sym (ap length more-is ∙ length_push calls call);
        opening = record {
          same_supply = k.opening.same_supply ∙ ran.opening.same_supply;
          same_box = k.opening.same_box ∙ ran.opening.same_box;
          same_calendar = k.opening.same_calendar ∙ ran.opening.same_calendar;
        };
        history = λ entries h.
            subst (λ es. History o es (ledger_of d)) (append_assoc entries (entries_of calls answers) _ ∙ ap (λ es. entries ++ es) (sym listed))
            (extended o (entries ++ entries_of calls answers) (ledger_of b) (ledger_of d) (request_of call) (reply_of answer_reply answer) step (ran.history entries h));
      }

  -- an account opened, and the calls made on it
  pub replays : (supply : S) (t : Terms) (calls : List Call) (a : Account S) (r : Replayed S) → Lawful (whole supply) (tables supply) → Opened whole tables supply t a → Ran whole tables a r.account calls (vec_items r.answers) → Replays whole tables supply t calls r
  replays supply t calls a r law made ran =
      let b = r.account in
      let s = ran.opening in
      let o = opening_of whole tables b in
      let alike = sym (same_opening a b s) in
      let begun = subst (History (opening_of whole tables a) []) (sym made.starts_empty) opened in
      let lawful = subst (λ s. Lawful (whole s) (tables s)) (sym (s.same_supply ∙ made.same_supply)) law in
      let entries = entries_of calls (vec_items r.answers) in
      let history = subst (λ (x : Opening). History x entries (ledger_of b)) alike (ran.history [] begun) in
      record {
        no_ground = made.no_ground;
        same_supply = s.same_supply ∙ made.same_supply;
        box_chosen = made.box_chosen ∙ ap Some (sym s.same_box);
        same_first = ap (λ (x : Calendar). x.first) s.same_calendar ∙ made.same_first;
        same_lengths = ap lengths_of s.same_calendar ∙ made.same_lengths;
        an_answer_each = ran.an_answer_each;
        history = history;
        upheld = upheld o (opening_lawful whole tables b lawful) entries (ledger_of b) history;
      }
