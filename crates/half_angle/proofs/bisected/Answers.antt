use Rattle.std.proofs.Common.{◌∙◌, refl, sym, true, false, arith}
use Rattle.half_angle.specs.HalfAngles.{bisected}
use Rattle.half_angle.proofs.Halves.{halved-next, halved-last}
use Rattle.half_angle.proofs.bisected.Goals as goal

pub loop-left-init : goal.loop-left-init
unfolding bisected
loop-left-init c = record { order = omega arith; most = omega arith; rest = refl }

pub loop-left-preserved-then-excess : goal.loop-left-preserved-then-excess
loop-left-preserved-then-excess c =
    let l = c.loop-left in
    let i = l.invariant in
    let below = rw (c.excess.ensures, c.angle.ensures) at c.if-excess.true in
    record {
      order = omega arith;
      most = i.most;
      rest = sym (halved-next l.left l.low l.high c.args.s c.args.c true c.loop-left-test.true below) ∙ i.rest;
    }

pub loop-left-preserved : goal.loop-left-preserved
loop-left-preserved c =
    let l = c.loop-left in
    let i = l.invariant in
    let below = rw (c.excess.ensures, c.angle.ensures) at c.if-excess.false in
    record {
      order = omega arith;
      most = omega arith;
      rest = sym (halved-next l.left l.low l.high c.args.s c.args.c false c.loop-left-test.true below) ∙ i.rest;
    }

pub returns-clause-value : goal.returns-clause-value
returns-clause-value c = let l = c.loop-left in sym (halved-last l.left l.low l.high c.args.s c.args.c (omega arith)) ∙ l.invariant.rest
