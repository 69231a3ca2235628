-- What is left of the chain, composed with what is held, gives the answer.
use Rattle.std.specs.Prelude.{Ok}
use Rattle.std.proofs.Common.{◌≡◌, length}
use Rattle.std.specs.Slice.Iter.{chunks_exact_rest, chunks_exact_size}
use Rattle.element_bytes.specs.Bytes.{element_size}
use Rattle.byte_chain.specs.Steps.{chain_on}
use Rattle.byte_chain.proofs.compose_blocks.Given as goal

abbrev pub invariant-loop-block : goal.invariant-loop-block
invariant-loop-block l =
    (chunks_exact_size l.blocks ≡ element_size) × (chain_on l.tolerance (Ok l.fn.start) l.s ≡ chain_on l.tolerance (Ok l.held) (chunks_exact_rest l.blocks))

abbrev pub decreases-loop-block : goal.decreases-loop-block
decreases-loop-block l = length (chunks_exact_rest l.blocks)
