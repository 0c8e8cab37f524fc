use Rattle.slip.specs.Format.{opening, post, correct}
use Rattle.settlement.specs.Handed.{figures_in}
use Rattle.slip.specs.View.{opening_of}
use Rattle.slip.proofs.ReadsBack.{back}
use Rattle.slip.proofs.writer.SlipCall.write.Goals as goal

pub returns-in-Open-clause-reads_back : goal.returns-in-Open-clause-reads_back
returns-in-Open-clause-reads_back c =
    rw c.in-Open.is (back (opening (opening_of c.in-Open.opening)) c.args.out.now _ _ (λ i lt. (c.type_inv.out i).fits) c.write_opening.ensures.written c.write_opening.ensures.fits)

pub returns-in-Post-clause-reads_back : goal.returns-in-Post-clause-reads_back
returns-in-Post-clause-reads_back c =
    rw c.in-Post.is (back (post c.in-Post.day (figures_in c.in-Post.figures)) c.args.out.now _ _ (λ i lt. (c.type_inv.out i).fits) c.write_entry.ensures.put c.write_entry.ensures.fits)

pub returns-in-Correct-clause-reads_back : goal.returns-in-Correct-clause-reads_back
returns-in-Correct-clause-reads_back c =
    rw c.in-Correct.is (back (correct c.in-Correct.day (figures_in c.in-Correct.figures)) c.args.out.now _ _ (λ i lt. (c.type_inv.out i).fits) c.write_entry-in-Correct.ensures.put c.write_entry-in-Correct.ensures.fits)
