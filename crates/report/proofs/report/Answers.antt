use borrow.Author.Rules.{rules}
use Rattle.report.specs.Text.{report_of}
use Rattle.report.proofs.Printed.{written}
use Rattle.report.proofs.report.Goals as goal

pub returns : goal.returns
unfolding report_of
returns c =
    rw (← c.quaternion_norm_tolerance.ensures, ← c.chain.ensures)
    (written c.args.out.now _ c.chain.result _ (search rules) c.put_answer.ensures.value c.put_answer.ensures.out_after)
