use Rattle.std.proofs.Common.{arith}
use Rattle.report_text.proofs.LinesStored.{refusal-sets, refusal-length}
use Rattle.report_text.proofs.lines.put_refusal.Goals as goal

pub returns-clause-value : goal.returns-clause-value
returns-clause-value c = omega (arith, refusal-length c.args.n, c.put_decimal-end.ensures.value)

pub returns-clause-out_after : goal.returns-clause-out_after
returns-clause-out_after c =
    rw (c.put_ending.ensures, c.put_decimal-end.ensures.out_after, c.put_refused.ensures)
    (refusal-sets c.args.out.now c.args.n c.put_decimal-end.result c.put_decimal-end.ensures.value)
