-- What a chain that starts from a block, or from what is held, ensures. Definitions only.
use Rattle.std.specs.Prelude.{ℕ, ◌*◌, ◌/◌, List, length, Float}
use Rattle.sgal3.specs.Elements.{rep_size}
use Rattle.element_bytes.specs.Bytes.{element_size, values_at}
use Rattle.sgal3_calls.specs.Composition as Composition
use Rattle.sgal3_calls.specs.Composition.{Answer}

-- the chain of n blocks of s, composed with the block `first` in place of the identity
unfoldable pub chain_after : Float → List ℕ → ℕ → List ℕ → Answer
chain_after tolerance first n s = Composition.chain_from tolerance (Composition.check_element (values_at rep_size first 0) tolerance) n (values_at (n * rep_size) s 0)

-- the chain of the whole blocks of s, composed with what is held
unfoldable pub chain_on : Float → Answer → List ℕ → Answer
chain_on tolerance held s = Composition.chain_from tolerance held (length s / element_size) (values_at (length s / element_size * rep_size) s 0)
