use Rattle.std.proofs.Common.{◌≤◌, length, arith}
use Rattle.checks.specs.Refusals.{tried}
use Rattle.checks.proofs.Places.{found, missed, none_left}
use Rattle.checks.proofs.Refusal.place.Goals as goal

pub returns-then-tried-n : goal.returns-then-tried-n
unfolding tried
returns-then-tried-n c =
    let l = c.loop-k in
    rw (← c.number-n.ensures) (omega (arith, l.invariant, found tried l.k c.number-n.result 0 c.loop-k-test.true c.if-tried-n.true))

pub loop-k-preserved : goal.loop-k-preserved
unfolding tried
loop-k-preserved c =
    let l = c.loop-k in
    omega (arith, l.invariant, missed tried l.k c.number-n.result 0 c.loop-k-test.true c.if-tried-n.false)

pub returns : goal.returns
unfolding tried
returns c =
    let l = c.loop-k in
    let past : length tried ≤ l.k = omega arith in
    rw (← c.number-n.ensures) (omega (arith, l.invariant, none_left tried l.k c.number-n.result past))
