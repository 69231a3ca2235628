use Rattle.std.proofs.Common.{◌%◌, ◌^◌, arith}
use Rattle.float.proofs.Patterns.{shifted, split-low, split-high}
use Rattle.float.proofs.split.Goals as goal

pub overflow_sub-z : goal.overflow_sub-z
overflow_sub-z c = (shifted (c.args.b % 2 ^ 52) (omega arith) (omega arith)).some

pub returns-then-f-eq0 : goal.returns-then-f-eq0
returns-then-f-eq0 c = split-low c.args.b c.requires.b_nonzero c.if-f-eq0.true

pub returns-else-f-eq0 : goal.returns-else-f-eq0
returns-else-f-eq0 c = split-high c.args.b c.requires.b_bound c.if-f-eq0.false
