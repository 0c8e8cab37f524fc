use Rattle.std.proofs.Common.{◌≡◌, Err, refl, ap, ◌∙◌, rules}
use Rattle.counter.specs.Run.{shown}
use Rattle.counter.specs.View.{book_of}
use Rattle.counter.proofs.Lines.{slip_line, refused_line}
use Rattle.counter.proofs.settle.take_slip.Goals as goal

pub returns-in-Ok-clause-line : goal.returns-in-Ok-clause-line
returns-in-Ok-clause-line c =
    let text = c.args.text.now in
    let taken = c.in-Ok.ensures.answer in
    let what : c.map_err.result ≡ shown c.in-Ok.answer = search rules in
    slip_line c.args.number (book_of c.args.counter.now) _ text c.in-Ok.rest.now c.requires c.map_err.result taken.slip taken.is_read
    (what ∙ ap shown taken.answers) taken.turns

pub returns-in-Err-clause-line : goal.returns-in-Err-clause-line
returns-in-Err-clause-line c =
    let text = c.args.text.now in
    let none = c.in-Err.ensures.answer in
    refused_line c.args.number (book_of c.args.counter.now) _ text _ c.requires (Err c.into.result) none.unread c.letter_shown.result none.is_unread
    (c.letter_shown.ensures none.unread none.carries) (ap Err c.into.ensures ∙ ap (λ f. shown (Err f)) none.carries) refl
