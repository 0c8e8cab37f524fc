use Rattle.std.proofs.Common.{Err, sym, ap, ◌∙◌}
use Rattle.std.proofs.lemmas.Result.{err_from_is_err_and}
use Rattle.slip.specs.View.{called}
use Rattle.counter.specs.Book.{asked}
use Rattle.counter.proofs.Taking.{answers, turns}
use Rattle.counter.proofs.counter.make_call.Goals as goal

pub returns-in_err-close-in-Close-clause-answer : goal.returns-in_err-close-in-Close-clause-answer
returns-in_err-close-in-Close-clause-answer g c =
    let q = err_from_is_err_and c.from_residual-in_err-close-in-Close.result c.from_residual-in_err-close-in-Close.ensures.1 in
    let is = sym (ap asked c.from.ensures) ∙ ap (λ s. asked (called s)) c.in-Close.is in
    q.1 ∙ ap Err q.2 ∙ answers g.S.Supply.whole g.S.Tariff.tables _ _ _ _ _ is c.in_err-close-in-Close.ensures

pub returns-in_err-close-in-Close-clause-book : goal.returns-in_err-close-in-Close-clause-book
returns-in_err-close-in-Close-clause-book g c =
    let is = sym (ap asked c.from.ensures) ∙ ap (λ s. asked (called s)) c.in-Close.is in
    turns g.S.Supply.whole g.S.Tariff.tables _ _ _ _ _ is c.in_err-close-in-Close.ensures
