-- What is left to halve gives the answer; each turn leaves one halving less.
use Rattle.std.proofs.Common.{◌≡◌, ◌≤◌}
use Rattle.half_angle.specs.HalfAngles.{last, halved, bisected}
use Rattle.half_angle.proofs.bisected.Given as goal

abbrev pub invariant-loop-left : goal.invariant-loop-left
invariant-loop-left l = record { order : l.low ≤ l.high; most : l.high ≤ last; rest : halved l.left l.low l.high l.s l.c ≡ bisected l.fn.s l.fn.c }

abbrev pub decreases-loop-left : goal.decreases-loop-left
decreases-loop-left l = l.left
