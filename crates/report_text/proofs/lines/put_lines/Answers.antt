use Rattle.std.proofs.Common.{◌*◌, sym, ◌∙◌, arith}
use lib.Ieee.{nan}
use Rattle.report_text.proofs.LinesStored.{next-line, no_line}
use Rattle.report_text.proofs.lines.put_lines.Goals as goal

pub loop-k-preserved : goal.loop-k-preserved
loop-k-preserved c =
    let l = c.loop-k in
    let next = next-line l.out l.k c.args.values.now nan (omega arith) in
    rw c.put_line.ensures (sym next ∙ l.invariant)

pub returns : goal.returns
returns c =
    let l = c.loop-k in
    sym (no_line l.out (l.k * 20) l.k c.args.values.now (omega arith)) ∙ l.invariant
