-- A run, one line after another.
use Rattle.std.proofs.Common.{◌≡◌, ℕ, suc, ◌+◌, ◌-◌, ◌*◌, ◌<◌, ◌≤◌, List, [], ◌∷◌, ◌++◌, length, drop, sym, refl, ap, ◌∙◌, append_assoc, append-nil, arith, length-append}
use Rattle.line.specs.Lines.{line_bytes, written}
use Rattle.line.specs.declared.line.Line.{Line}
use Rattle.line.proofs.Written.{written_more, written_front}
use Rattle.counter.specs.Book.{Book}
use Rattle.counter.specs.Run.{lines, run_lines, all_bytes}
use Rattle.counter.proofs.Lines.{lines_none, lines_over}

module _ (book : Book) (input before : List ℕ) where
  -- where a run stands before a line: what was written so far, and what is left gives the rest
  pub record Ran (number at : ℕ) (held : Book) (rest out : List ℕ) : Type 0 where
    pub text : List ℕ
    pub all : all_bytes (run_lines book input) ≡ text ++ all_bytes (lines (1000000 - number) number held rest)
    pub place : at ≡ length text
    pub few : at + 33 ≤ 33 * number
    pub fewer : at + 33 * length rest ≤ 33 * length input
    pub bytes : at ≤ length before → out ≡ written before 0 text

  pub ran_none : Ran 1 0 book input before
  unfolding written
  ran_none = record { text = []; all = refl; place = refl; few = omega arith; fewer = omega arith; bytes = λ h. refl }

  -- one line more
  module _ {number at : ℕ} {held : Book} {rest out : List ℕ} (ran : Ran number at held rest out) where
    pub ran_more : {behind : ℕ} {next : Book} {less after : List ℕ} (line : Line) → number < 1000000
        → ((left : ℕ) → lines (suc left) number held rest ≡ line ∷ lines left (number + 1) next less) → length less < length rest
        → behind ≡ at + length (line_bytes line) → behind ≤ at + 33 → (behind ≤ length out → after ≡ written out at (line_bytes line)) → length out ≡ length before
        → Ran (number + 1) behind next less after
    ran_more {behind} {next} {less} {after} line low step shorter is near put same =
        let own = line_bytes line in
        let left : 1000000 - number ≡ suc (1000000 - (number + 1)) = omega arith in
        let rest_is : all_bytes (lines (1000000 - number) number held rest) ≡ own ++ all_bytes (lines (1000000 - (number + 1)) (number + 1) next less) =
        ap (λ n. all_bytes (lines n number held rest)) left ∙ ap all_bytes (step (1000000 - (number + 1))) in
        record {
          text = ran.text ++ own;
          all = ran.all ∙ ap (λ l. ran.text ++ l) rest_is ∙ sym (append_assoc ran.text own (all_bytes (lines (1000000 - (number + 1)) (number + 1) next less)));
          place = omega (arith, ran.place, length-append ran.text own);
          few = omega (arith, ran.few);
          fewer = omega (arith, ran.fewer);
          bytes = λ h. written_more before 0 ran.text own (ran.bytes (omega arith)) (put (omega arith)) (omega (arith, ran.place)) (omega arith);
        }

    module _ (number-last : number ≤ 1000000) (ended : all_bytes (lines (1000000 - number) number held rest) ≡ []) where
      all_is : all_bytes (run_lines book input) ≡ ran.text
      all_is = ran.all ∙ ap (λ l. ran.text ++ l) ended ∙ append-nil ran.text

      pub ran_count : at ≡ length (all_bytes (run_lines book input))
      ran_count = ran.place ∙ ap length (sym all_is)

      pub ran_bytes : at ≤ length before → out ≡ all_bytes (run_lines book input) ++ drop at before
      ran_bytes h = written_front before ran.text (ran.bytes h) ran.place ∙ ap (λ l. l ++ drop at before) (sym all_is)

    -- no bytes are left, or no line may follow
    pub ended_empty : length rest ≡ 0 → all_bytes (lines (1000000 - number) number held rest) ≡ []
    ended_empty empty = ap all_bytes (lines_none (1000000 - number) number held rest empty)

    pub ended_last : 1000000 ≤ number → all_bytes (lines (1000000 - number) number held rest) ≡ []
    ended_last last = let none : 1000000 - number ≡ 0 = omega arith in ap (λ n. all_bytes (lines n number held rest)) none ∙ ap all_bytes (lines_over number held rest)
