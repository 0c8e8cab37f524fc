-- Every history of calls from a lawful opening on is upheld.
use Rattle.std.proofs.Common.{◌≡◌, ℕ, ◌<◌, ◌≤◌, true, false, cond, eqb, ltb, List, [], ◌∷◌, ◌++◌, map, length, ℤ, pos, ◌+ℤ◌, ◌-ℤ◌, is_some, Some, None, Option, sym, refl, ap, ◌∙◌, subst, inl, inr, arith}
use Rattle.std.proofs.lemmas.List.{length_push, map_push}
use Rattle.std.proofs.lemmas.Map.{update_apart, update_same}
use Rattle.std.proofs.lemmas.Int.{ints}
use Rattle.std.proofs.lemmas.Bool.{both_ways, cases_eq, cases_lt, eq-eqb, le-ltb, cond-false}
use Rattle.settlement.specs.declared.prices.MonthPrices.{MonthPrices}
use Rattle.settlement.specs.Totals.{Figures, MonthTotals}
use Rattle.account.specs.History.{Reply, refused, Answered, Answers, Accepted, Entry, History, opened, called, charge, charged, int_sum, closed_nets, Upheld, Kept}
use Rattle.account.specs.Law.{Law}
use Rattle.account.specs.Ledger.{Opening, LawfulOpening, Ledger, empty, days, month_start, month_length, month_of_day, month_totals, month_numbers, closed_days, net_in, Request, post, correct, strike, draft, close, show, request_ground, with_standing, done, unless_refused, after}
use Rattle.account.specs.declared.fault.AccountFault.{AccountFault}
use Rattle.account.proofs.Alike.{nets_alike}
use Rattle.account.proofs.Complete.{Stand, none_missing, totalled, shown_right}
use Rattle.account.proofs.MonthDays.{start_more, month_ends}
use Rattle.account.proofs.Nets.{int_sum-push, net, nets_changed, nets_closed}
use Rattle.account.proofs.Unrefused.{passed, entered, struck, completed}

-- no more months are closed than there are, and each of their days stands
pub record Sound (o : Opening) (l : Ledger) : Type 0 where
  pub few_closed : length l.closed ≤ length o.lengths
  pub all_stand : Stand l.standing 0 (closed_days o l)

-- the ledger after a call is sound, and the nets of its closed months grew by a charge
record Step (o : Opening) (l next : Ledger) (c : ℤ) : Type 0 where
  sound : Sound o next
  adds : closed_nets o next ≡ closed_nets o l +ℤ c

pub charge_refused : (r : Request) (fault : AccountFault) → charge (r, refused fault) ≡ pos 0
charge_refused (post day f) fault = refl
charge_refused (correct day f) fault = refl
charge_refused (strike day) fault = refl
charge_refused (draft p) fault = refl
charge_refused (close p) fault = refl
charge_refused (show month) fault = refl

module _ (o : Opening) (l : Ledger) (now : Sound o l) where
  unchanged : Step o l l (pos 0)
  unchanged = record { sound = now; adds = omega (arith, ints) }

  -- a day of a closed month does not lose its reading
  changed : (day : ℕ) (reading : Option Figures) → day < days o → (day < closed_days o l → is_some reading ≡ true) → Step o l (with_standing l day reading) (cond (ltb day (closed_days o l)) (net o (with_standing l day reading) (month_of_day o day) -ℤ net o l (month_of_day o day)) (pos 0))
  changed day reading within fits = record {
    sound = record {
      few_closed = now.few_closed;
      all_stand = λ k ge lt. elim (cases_eq k day) [
        | inl same ↦ ap is_some (update_same eqb l.standing day reading k (eq-eqb day k (sym same))) ∙ fits (omega arith)
        | inr apart ↦ ap is_some (update_apart l.standing day reading k apart) ∙ now.all_stand k ge lt
      ];
    };
    adds = nets_changed o l day reading now.few_closed within;
  }

  changed_open : (day : ℕ) (reading : Option Figures) → day < days o → closed_days o l ≤ day → Step o l (with_standing l day reading) (pos 0)
  changed_open day reading within le =
      subst (Step o l (with_standing l day reading)) (cond-false _ _ _ (le-ltb day (closed_days o l) le)) (changed day reading within (λ lt. absurd (omega arith)))

  -- a day with no reading is in no closed month
  free_open : (day : ℕ) → is_some (l.standing day) ≡ false → closed_days o l ≤ day
  free_open day free = elim (cases_lt day (closed_days o l)) [
    | inl lt ↦ absurd (both_ways _ free (now.all_stand day (omega arith) (omega arith)))
    | inr le ↦ le
  ]

  closing : (p : MonthPrices) → request_ground o l (close p) ≡ None → Step o l (done l (close p)) (net_in (month_numbers o l (length l.closed) p))
  closing p e =
      let n = length l.closed in
      let ready = completed o l p e in
      let stand = none_missing l.standing (closed_days o l) (month_length o n) ready.1 in
      let many = length_push l.closed p in
      let ends = ap (month_start o) many ∙ start_more o n ready.0 in
      record {
        sound = record {
          few_closed = omega (arith, ready.0);
          all_stand = λ day ge lt. elim (cases_lt day (closed_days o l)) [
            | inl before ↦ now.all_stand day ge (omega arith)
            | inr behind ↦ stand day behind (omega arith)
          ];
        };
        adds = nets_closed o l p;
      }

  accepted : (r : Request) (reply : Reply) → request_ground o l r ≡ None → Accepted o l r reply → Step o l (done l r) (charge (r, reply))
  accepted (post day f) reply e a =
      let known = entered o day f _ e in changed_open day (Some f) known.0 (free_open day (passed _ _ _ known.1).0)
  accepted (correct day f) reply e a =
      subst (Step o l (done l (correct day f))) (sym (ap (λ x. charge (correct day f, x)) a)) (changed day (Some f) (entered o day f _ e).0 (λ lt. refl))
  accepted (strike day) reply e a = let known = struck o l day e in changed_open day None known.0 known.1
  accepted (draft p) reply e a = unchanged
  accepted (close p) reply e a =
      subst (Step o l (done l (close p))) (ap net_in a.2 ∙ sym (ap (λ x. charge (close p, x)) a.3)) (closing p e)
  accepted (show month) reply e a = unchanged

  answered : (r : Request) (reply : Reply) (g : Option AccountFault) → request_ground o l r ≡ g → Answered g o l r reply → Step o l (unless_refused g l (done l r)) (charge (r, reply))
  answered r reply None e a = accepted r reply e a
  answered r reply (Some fault) e a = subst (Step o l l) (sym (ap (λ x. charge (r, x)) a ∙ charge_refused r fault)) unchanged

-- a ledger is sound as it opens
pub opened_sound : (o : Opening) → Sound o empty
opened_sound o = record { few_closed = omega arith; all_stand = λ day ge lt. absurd (omega arith) }

-- of every history: its ledger is sound, and its charges are the nets of the closed months
pub record SoFar (o : Opening) (entries : List Entry) (l : Ledger) : Type 0 where
  pub sound : Sound o l
  pub adds_up : charged entries ≡ closed_nets o l

pub so_far : {o : Opening} {entries : List Entry} {l : Ledger} → History o entries l → SoFar o entries l
so_far {o} opened = record { sound = opened_sound o; adds_up = refl }
so_far {o} (called {entries} {l} r reply h a) =
    let before = so_far h in
    let step = answered o l before.sound r reply (request_ground o l r) refl a in
    record {
      sound = step.sound;
      adds_up =
          ap int_sum (map_push charge entries (r, reply))
          ∙ int_sum-push (map charge entries) (charge (r, reply))
          ∙ ap (λ x. x +ℤ charge (r, reply)) before.adds_up
          ∙ sym step.adds;
    }

-- a closed month has its totals
pub closed_totalled : (o : Opening) → LawfulOpening o → (l : Ledger) → Sound o l → (month : ℕ) → month < length l.closed → (t : MonthTotals) × (month_totals o l month ≡ Some t)
closed_totalled o law l s month lt =
    let known : month < length o.lengths = omega (arith, s.few_closed) in
    totalled o law l month known (λ day ge below. s.all_stand day (omega arith) (omega (arith, month_ends o month (length l.closed) lt s.few_closed)))

pub upheld : Law
upheld o law entries l h =
    let here = so_far h in
    record {
      months_right = λ month lt. let t = closed_totalled o law l here.sound month lt in shown_right o law l month t.0 t.1;
      charges_add_up = here.adds_up;
      charged_alike = λ p law' alike others k h' prices same.
          (so_far h').adds_up
          ∙ nets_alike o p law.supply law'.supply alike l k here.sound.few_closed prices same
          ∙ sym here.adds_up;
    }

pub opened_right : (o : Opening) → LawfulOpening o → Upheld o [] empty
opened_right o law = upheld o law [] empty opened

pub kept : (o : Opening) → LawfulOpening o → (l : Ledger) (r : Request) (reply : Reply) (next : Ledger) → Answers o l r reply → next ≡ after o l r → Kept o l r reply next
kept o law l r reply next a e = record {
  answers = a;
  ledger = e;
  law = λ entries h. subst (Upheld o (entries ++ (r, reply) ∷ [])) (sym e) (upheld o law (entries ++ (r, reply) ∷ []) (after o l r) (called r reply h a));
}
