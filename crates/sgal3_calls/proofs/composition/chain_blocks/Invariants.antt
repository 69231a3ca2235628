-- What is left of the chain, composed with what is held, gives the answer.
use Rattle.std.proofs.Common.{◌≡◌, ◌/◌, length}
use Rattle.std.specs.Slice.Iter.{chunks_exact_rest, chunks_exact_size}
use Rattle.sgal3.specs.Elements.{rep_size}
use Rattle.sgal3_calls.specs.Composition as Composition
use Rattle.sgal3_calls.proofs.Blocks.{composed}
use Rattle.sgal3_calls.proofs.composition.chain_blocks.Given as goal

abbrev pub invariant-loop-block : goal.invariant-loop-block
invariant-loop-block l =
    (chunks_exact_size l.block-iterator ≡ rep_size) × (Composition.chain_blocks l.tolerance (length l.s / rep_size) l.s ≡ composed l.tolerance l.held (chunks_exact_rest l.block-iterator))
