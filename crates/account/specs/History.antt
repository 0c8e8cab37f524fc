-- Histories of calls with their answers, and the law that every one of them keeps.
use Rattle.std.specs.Prelude.{◌≡◌, ℕ, ◌+◌, ◌<◌, ◌≤◌, cond, List, [], ◌∷◌, ◌++◌, map, length, ℤ, pos, ◌+ℤ◌, ◌-ℤ◌, Some, None, Option, nat_lt}
use Rattle.std.specs.List.{range_with_len}
use Rattle.settlement.specs.Boxes.{limit}
use Rattle.settlement.specs.Rows.{Best, used_rows}
use Rattle.settlement.specs.Settling.{Numbers, smallest}
use Rattle.settlement.specs.Totals.{Figures}
use Rattle.account.specs.Ledger.{Opening, LawfulOpening, OpenedAlike, Ledger, empty, closed_days, month_of_day, month_numbers, closed_numbers, net_in, Request, post, correct, strike, draft, close, show, request_ground, after, with_standing}
use Rattle.account.specs.declared.fault.AccountFault.{AccountFault}

-- what a call answers: a refusal, that it is done, a difference in yen, or a settlement with its count of credit lines
pub data Reply : Type 0 where
  refused : AccountFault → Reply
  done : Reply
  difference : ℤ → Reply
  settled : Numbers → ℕ → Reply

-- a settlement of these numbers; the count of credit lines is free, up to the rows with used kWh
abbrev pub Settles : Option Numbers → Reply → Type 0
Settles numbers reply = (n : Numbers) × (lines : ℕ) × (numbers ≡ Some n) × (reply ≡ settled n lines) × (lines ≤ used_rows n.credit.rows)

-- the difference that a correction of a day makes: in a closed month its net after, less its net before
abbrev pub correction : Opening → Ledger → ℕ → Figures → ℤ
correction o l day f =
    cond (nat_lt day (closed_days o l))
    (net_in (closed_numbers o (with_standing l day (Some f)) (month_of_day o day)) -ℤ net_in (closed_numbers o l (month_of_day o day)))
    (pos 0)

-- the right answer where no ground holds
abbrev pub Accepted : Opening → Ledger → Request → Reply → Type 0
Accepted o l (post day f) reply = reply ≡ done
Accepted o l (correct day f) reply = reply ≡ difference (correction o l day f)
Accepted o l (strike day) reply = reply ≡ done
Accepted o l (draft p) reply = Settles (month_numbers o l (length l.closed) p) reply
Accepted o l (close p) reply = Settles (month_numbers o l (length l.closed) p) reply
Accepted o l (show month) reply = Settles (closed_numbers o l month) reply

-- the right answer to a call
abbrev pub Answered : Option AccountFault → Opening → Ledger → Request → Reply → Type 0
Answered None o l r reply = Accepted o l r reply
Answered (Some fault) o l r reply = reply ≡ refused fault

abbrev pub Answers : Opening → Ledger → Request → Reply → Type 0
Answers o l r reply = Answered (request_ground o l r) o l r reply

abbrev pub Entry : Type 0
Entry = Request × Reply

-- calls from the opening on, the newest last, each with its right answer, and the ledger they lead to
pub data History (o : Opening) : List Entry → Ledger → Type 0 where
  opened : History o [] empty
  called : {entries : List Entry} {l : Ledger} (r : Request) (reply : Reply) → History o entries l → Answers o l r reply → History o (entries ++ (r, reply) ∷ []) (after o l r)

-- what an entry charges: a closing its net, a correction its difference
abbrev pub charge : Entry → ℤ
charge (close p, settled n lines) = n.charges.net
charge (close p, refused fault) = pos 0
charge (close p, done) = pos 0
charge (close p, difference d) = pos 0
charge (correct day f, difference d) = d
charge (correct day f, refused fault) = pos 0
charge (correct day f, done) = pos 0
charge (correct day f, settled n lines) = pos 0
charge (post day f, reply) = pos 0
charge (strike day, reply) = pos 0
charge (draft p, reply) = pos 0
charge (show month, reply) = pos 0

abbrev pub int_sum : List ℤ → ℤ
int_sum [] = pos 0
int_sum (x ∷ xs) = x +ℤ int_sum xs

abbrev pub charged : List Entry → ℤ
charged entries = int_sum (map charge entries)

-- the nets of the closed months at the readings now standing, each at its own prices
abbrev pub closed_nets : Opening → Ledger → ℤ
closed_nets o l = int_sum (map (λ month. net_in (closed_numbers o l month)) (range_with_len 0 (length l.closed)))

-- a closed month as it may be shown: it splits its surplus, deposits the smallest of surplus, usage and the box's
-- limit, and no other choice of as many used kWh is worth more
pub record ShownRight (o : Opening) (l : Ledger) (month : ℕ) : Type 0 where
  pub numbers : Numbers
  pub shown : closed_numbers o l month ≡ Some numbers
  pub splits : numbers.split.deposited + numbers.split.bought ≡ numbers.split.surplus
  pub deposits_smallest : numbers.split.deposited ≡ smallest numbers.split.surplus numbers.split.usage (limit o.box)
  pub best : Best numbers.split.deposited numbers.credit.rows numbers.credit.shares

-- the law of a history and the ledger it led to
pub record Upheld (o : Opening) (entries : List Entry) (l : Ledger) : Type 0 where
  pub months_right : (month : ℕ) → month < length l.closed → ShownRight o l month
  pub charges_add_up : charged entries ≡ closed_nets o l
  pub charged_alike : (p : Opening) → LawfulOpening p → OpenedAlike o p → (others : List Entry) (k : Ledger) → History p others k → k.closed ≡ l.closed → ((day : ℕ) → day < closed_days o l → k.standing day ≡ l.standing day) → charged others ≡ charged entries

-- a call answered right, with the ledger after it, keeps the law whatever history led here
pub record Kept (o : Opening) (l : Ledger) (r : Request) (reply : Reply) (next : Ledger) : Type 0 where
  pub answers : Answers o l r reply
  pub ledger : next ≡ after o l r
  pub law : (entries : List Entry) → History o entries l → Upheld o (entries ++ (r, reply) ∷ []) next
