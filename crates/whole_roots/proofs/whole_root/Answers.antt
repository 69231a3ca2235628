use Rattle.std.proofs.Common.{arith}
use Rattle.std.proofs.Math.Pow.{pow_mono}
use Rattle.std.proofs.lemmas.Grind.{pow_more}
use Rattle.whole_roots.proofs.whole_root.Goals as goal

pub next_digit-s-requires-clause-root_bound : goal.next_digit-s-requires-clause-root_bound
next_digit-s-requires-clause-root_bound c = omega (arith, pow_mono {i = c.loop.counter} {j = 53} (omega arith))

pub loop-preserved : goal.loop-preserved
loop-preserved c = record {
  ready = c.next_digit-s.ensures.ready;
  small = omega (arith, pow_more 2 c.loop.counter);
  exact = rw pow_more (omega arith);
}
