-- What is left of the chain, after a refusal that is held, gives the answer.
use Rattle.std.specs.Prelude.{Err}
use Rattle.std.proofs.Common.{◌≡◌}
use Rattle.std.specs.Slice.Iter.{chunks_exact_rest, chunks_exact_size}
use Rattle.element_bytes.specs.Bytes.{element_size}
use Rattle.byte_chain.specs.Steps.{chain_on}
use Rattle.byte_chain.proofs.earliest.Given as goal

abbrev pub invariant-loop-block : goal.invariant-loop-block
invariant-loop-block l =
    (chunks_exact_size l.block-iterator ≡ element_size) × (chain_on l.tolerance (Err l.fn.first) (chunks_exact_rest l.fn.blocks) ≡ chain_on l.tolerance (Err l.held) (chunks_exact_rest l.block-iterator))
