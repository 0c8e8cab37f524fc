use Rattle.std.proofs.Common.{sym, arith}
use Rattle.slip.specs.View.{slip_of}
use Rattle.counter.proofs.Lines.{read_shorter}
use Rattle.counter.proofs.settle.serve.Goals as goal

pub returns-clause-shorter : goal.returns-clause-shorter
returns-clause-shorter c =
    let read = c.in_ok-read.read in
    omega (arith, read_shorter c.args.text.now (slip_of read.slip) read.rest.now c.in_ok-read.ensures.exact (sym c.in_ok-read.ensures.answer))
