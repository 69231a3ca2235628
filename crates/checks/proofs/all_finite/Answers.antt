use Rattle.std.proofs.Common.{sym, ◌∙◌, arith}
use Rattle.checks.proofs.Finite.{tested, ended}
use Rattle.checks.proofs.all_finite.Goals as goal

pub loop-x-preserved : goal.loop-x-preserved
loop-x-preserved c =
    let l = c.loop-x in
    (omega arith, rw c.is_finite-all.ensures (l.invariant.1 ∙ tested l.all _ l.x-index (omega arith)))

pub returns : goal.returns
returns c =
    let l = c.loop-x in
    sym (l.invariant.1 ∙ ended l.all _ l.x-index (omega arith))
