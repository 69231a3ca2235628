-- One pair counted is one fewer left.
use Rattle.std.proofs.Common.{arith}
use Rattle.std.specs.Slice.Iter.{chunks_exact_rest}
use Rattle.sqrt_pairs.proofs.Runs.{first_pair}
use Rattle.sqrt_pairs.proofs.Tally.add_pairs.Goals as goal

pub loop-pair-preserved : goal.loop-pair-preserved
loop-pair-preserved c =
    let step = c.in-Some.ensures.steps in
    let rest = chunks_exact_rest c.next.new.self in
    let first = first_pair (chunks_exact_rest c.loop-pair.pair-iterator) c.in-Some.pair.now rest step.1.0 (omega (arith, step.1.1)) in
    let wrong_is = rw (c.word.ensures, c.word-in-loop-pair.ensures) at c.add_pair.ensures.different in
    record { size = omega (arith, step.0); compared = omega (arith, first.0); different = omega (arith, first.1) }
