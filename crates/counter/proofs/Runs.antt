-- The law of slips taken one after another.
use Rattle.std.proofs.Common.{◌≡◌, ℕ, ltb, List, [], ◌∷◌, ◌++◌, map, length, get_or, ℤ, pos, ◌+ℤ◌, Some, None, Option, sym, refl, ap, ◌∙◌, subst, append_assoc, append-nil, arith}
use mathlib.Core.List.{map-append}
use Rattle.std.proofs.lemmas.Int.{ints}
use Rattle.std.proofs.lemmas.Bool.{ltb-true}
use Rattle.std.specs.Option.{option_map}
use Rattle.settlement.specs.Settling.{numbers}
use Rattle.settlement.specs.declared.prices.MonthPrices.{MonthPrices}
use Rattle.settlement.specs.Totals.{MonthTotals}
use Rattle.account.proofs.Complete.{open_totalled}
use Rattle.account.proofs.Unrefused.{needed}
use Rattle.account.proofs.Upholding.{so_far, closed_totalled, upheld, charge_refused}
use Rattle.account.specs.History.{Reply, refused, done, difference, settled, Entry, History, opened, Settles, Answered, Accepted, charge, charged, int_sum, correction}
use Rattle.account.specs.History as history
use Rattle.account.specs.Ledger.{Opening, LawfulOpening, Ledger, empty, Request, post, correct, strike, draft, close, show, request_ground, no_prices, month_totals, month_numbers}
use Rattle.account.specs.declared.fault.AccountFault.{AccountFault}
use Rattle.account.specs.declared.fault.AccountFault.TheVariants.{NotClosed}
use Rattle.slip.specs.Format.{Slip, Opening as Order}
use Rattle.counter.specs.Book.{Book, Asked, an_account, a_call, asked, order_ground, ordered, ground_against, granted, unless_refused, turned, yen_asked, answered, outcome}
use Rattle.counter.specs.Law.{book_after, outcomes, yen_in, call_made, calls_made, called, RunKept}
use Rattle.counter.specs.declared.fault.CounterFault.{CounterFault}
use Rattle.counter.proofs.Ordered.{order_lawful}
use Rattle.counter.proofs.Taking.{told, told_right, after_turned}

int_sum-append : (xs ys : List ℤ) → int_sum (xs ++ ys) ≡ int_sum xs +ℤ int_sum ys
int_sum-append [] ys = omega (arith, ints)
int_sum-append (x ∷ xs) ys = let others = int_sum-append xs ys in omega (arith, ints)

-- what a book stands on: a history of calls from a lawful opening on, or none
abbrev Led : Book → List Entry → Type 0
Led None entries = entries ≡ []
Led (Some (o, l)) entries = LawfulOpening o × History o entries l

sum_one : (x : ℤ) → int_sum (x ∷ []) ≡ x
sum_one x = omega (arith, ints)

-- what slips add to a history
record Added (before : List Entry) (next : Book) (calls : List Request) (yen : ℤ) : Type 0 where
  more : List Entry
  are_calls : map called more ≡ calls
  led : Led next (before ++ more)
  charges : charged more ≡ yen

-- a month that has its totals has a right settlement
settles : (o : Opening) (l : Ledger) (month : ℕ) (p : MonthPrices) (t : MonthTotals) → month_totals o l month ≡ Some t → (reply : Reply) × Settles (month_numbers o l month p) reply
settles o l month p t is =
    let n = numbers o.meaning o.tables o.box p t in
    (settled n 0, (n, 0, ap (option_map (numbers o.meaning o.tables o.box p)) is, refl, omega arith))

module _ (o : Opening) (law : LawfulOpening o) (l : Ledger) {entries : List Entry} (h : History o entries l) where
  -- every call has a right reply
  accepted : (r : Request) → request_ground o l r ≡ None → (reply : Reply) × Accepted o l r reply
  accepted (post day f) free = (done, refl)
  accepted (correct day f) free = (difference (correction o l day f), refl)
  accepted (strike day) free = (done, refl)
  accepted (draft p) free = let t = open_totalled o law l p free in settles o l (length l.closed) p t.0 t.1
  accepted (close p) free = let t = open_totalled o law l p free in settles o l (length l.closed) p t.0 t.1
  accepted (show month) free =
      let closed = ltb-true month (length l.closed) (needed (ltb month (length l.closed)) NotClosed None free).0 in
      let t = closed_totalled o law l (so_far h).sound month closed in
      settles o l month (get_or l.closed month no_prices) t.0 t.1

  replied : (r : Request) (g : Option AccountFault) → request_ground o l r ≡ g → (reply : Reply) × Answered g o l r reply
  replied r None is = accepted r is
  replied r (Some fault) is = (refused fault, refl)

-- what the counter answers of a reply charges what its entry does
told_yen : (r : Request) (reply : Reply) → yen_in (told r reply) ≡ charge (r, reply)
told_yen r (refused fault) = sym (charge_refused r fault)
told_yen r done = refl
told_yen r (difference yen) = refl
told_yen r (settled n lines) = refl

unchanged : (before : List Entry) (book : Book) → Led book before → Added before book [] (pos 0)
unchanged before book led = record { more = []; are_calls = refl; led = subst (Led book) (sym (append-nil before)) led; charges = refl }

-- an order on an empty book: where no ground holds, a history begins
ordering : (order : Order) (g : Option CounterFault) → order_ground order ≡ g → (before : List Entry) → before ≡ [] → Added before (unless_refused g None (granted None (an_account order))) [] (yen_in (answered g (pos 0)))
ordering order (Some fault) is before none = unchanged before None none
ordering order None is before none =
    let made = order_lawful order is in
    let begun : Led (Some (ordered order made.0, empty)) before = (made.2, subst (λ es. History (ordered order made.0) es empty) (sym none) opened) in
    let box_is : granted None (an_account order) ≡ Some (ordered order made.0, empty) = ap (option_map (λ box. (ordered order box, empty))) made.1 in
    subst (λ (book : Book). Added before book [] (pos 0)) (sym box_is) (unchanged before (Some (ordered order made.0, empty)) begun)

-- one thing asked
asking : (book : Book) (a : Asked) (before : List Entry) → Led book before → Added before (unless_refused (ground_against book a) book (granted book a)) (call_made book a) (yen_in (answered (ground_against book a) (yen_asked book a)))
asking None (an_account order) before led = ordering order (order_ground order) refl before led
asking None (a_call r) before led = unchanged before None led
asking (Some held) (an_account order) before led = unchanged before (Some held) led
asking (Some (o, l)) (a_call r) before led =
    let reply = replied o led.0 l led.1 r (request_ground o l r) refl in
    record {
      more = (r, reply.0) ∷ [];
      are_calls = refl;
      led = subst (λ (book : Book). Led book (before ++ (r, reply.0) ∷ [])) (after_turned o l r (request_ground o l r)) (led.0, history.called r reply.0 led.1 reply.1);
      charges = sum_one (charge (r, reply.0)) ∙ sym (told_yen r reply.0) ∙ ap yen_in (told_right o l r reply.0 (request_ground o l r) reply.1);
    }

-- slips in order
running : (slips : List Slip) (book : Book) (before : List Entry) → Led book before → Added before (book_after book slips) (calls_made book slips) (int_sum (map yen_in (outcomes book slips)))
running [] book before led = unchanged before book led
running (slip ∷ slips) book before led =
    let first = asking book (asked slip) before led in
    let rest = running slips (turned book slip) (before ++ first.more) first.led in
    record {
      more = first.more ++ rest.more;
      are_calls = map-append called first.more rest.more ∙ (λ i. first.are_calls i ++ rest.are_calls i);
      led = subst (Led (book_after (turned book slip) slips)) (append_assoc before first.more rest.more) rest.led;
      charges = ap int_sum (map-append charge first.more rest.more) ∙ int_sum-append (map charge first.more) (map charge rest.more) ∙ (λ i. first.charges i +ℤ rest.charges i);
    }

pub run_kept : RunKept
run_kept slips o l ends =
    let ran = running slips None [] refl in
    let led : Led (Some (o, l)) ran.more = subst (λ (book : Book). Led book ran.more) ends ran.led in
    let law = upheld o led.0 ran.more l led.1 in
    record {
      entries = ran.more;
      every_call = ran.are_calls;
      history = led.1;
      upheld = law;
      yen_add_up = sym ran.charges ∙ law.charges_add_up;
    }

-- one slip more
pub book_after_push : (book : Book) (slips : List Slip) (slip : Slip) → book_after book (slips ++ slip ∷ []) ≡ turned (book_after book slips) slip
book_after_push book [] slip = refl
book_after_push book (first ∷ slips) slip = book_after_push (turned book first) slips slip

pub outcomes_push : (book : Book) (slips : List Slip) (slip : Slip) → outcomes book (slips ++ slip ∷ []) ≡ outcomes book slips ++ outcome (book_after book slips) slip ∷ []
outcomes_push book [] slip = refl
outcomes_push book (first ∷ slips) slip = ap (λ rest. outcome book first ∷ rest) (outcomes_push (turned book first) slips slip)
