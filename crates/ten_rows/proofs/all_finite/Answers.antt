use Rattle.std.proofs.Common.{sym, ◌∙◌, arith}
use Rattle.ten_rows.proofs.Finite.{passes, stops, ends}
use Rattle.ten_rows.proofs.all_finite.Goals as goal

pub returns-then-not-all_finite : goal.returns-then-not-all_finite
returns-then-not-all_finite c =
    let l = c.loop-row in
    sym (l.invariant.1 ∙ stops _ _ l.row-index (omega (arith, c.told-m)) (sym c.if-not-all_finite.ensures))

pub loop-row-preserved : goal.loop-row-preserved
loop-row-preserved c =
    let l = c.loop-row in
    (omega (arith, c.told-m), l.invariant.1 ∙ passes _ _ l.row-index (omega (arith, c.told-m)) (sym c.if-not-all_finite.ensures))

pub returns : goal.returns
returns c =
    let l = c.loop-row in
    sym (l.invariant.1 ∙ ends _ l.row-index (omega arith))
