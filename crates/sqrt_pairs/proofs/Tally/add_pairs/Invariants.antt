-- The pairs counted so far and those that are left are those of s.
use Rattle.std.proofs.Common.{◌≡◌, ◌+◌, ◌/◌, length}
use Rattle.std.specs.Slice.Iter.{chunks_exact_rest, chunks_exact_size}
use Rattle.sqrt_pairs.specs.Pairs.{wrong_pairs}
use Rattle.sqrt_pairs.proofs.Tally.add_pairs.Given as goal

abbrev pub invariant-loop-pair : goal.invariant-loop-pair
invariant-loop-pair l = let rest = chunks_exact_rest l.pair-iterator in record {
  size : chunks_exact_size l.pair-iterator ≡ 16;
  compared : l.self.compared + length rest / 16 ≡ l.fn.self.compared + length l.fn.s / 16;
  different : l.self.different + wrong_pairs rest (length rest / 16) ≡ l.fn.self.different + wrong_pairs l.fn.s (length l.fn.s / 16);
}
