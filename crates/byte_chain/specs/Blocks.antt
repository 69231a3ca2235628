-- Byte blocks: an element of 88 little-endian bytes, and a chain of them. Definitions only.
use Rattle.std.specs.Prelude.{ℕ, ◌*◌, ◌/◌, cond, List, eqb, length, Err, Float}
use Rattle.checks.specs.Checks.{and_then, check_chain_length}
use Rattle.checks.specs.declared.Refusal.TheVariants.{Length}
use Rattle.sgal3.specs.Elements.{rep_size}
use Rattle.element_bytes.specs.Bytes.{element_size, values_at}
use Rattle.sgal3_calls.specs.Composition as Composition
use Rattle.sgal3_calls.specs.Composition.{Answer}

-- the element of a block of bytes, or why the block is refused; lengths count bytes
unfoldable pub check_block : List ℕ → Float → Answer
check_block s tolerance = cond (eqb (length s) element_size) (Composition.check_element (values_at rep_size s 0) tolerance) (Err (Length element_size (length s)))

-- the chain of n blocks is the chain of their values
unfoldable pub chain_blocks : Float → ℕ → List ℕ → Answer
chain_blocks tolerance n s = Composition.chain_blocks tolerance n (values_at (n * rep_size) s 0)

-- at most `most` bytes
unfoldable pub chain : ℕ → List ℕ → Float → Answer
chain most s tolerance = and_then (check_chain_length (length s) element_size most) (λ _. chain_blocks tolerance (length s / element_size) s)
