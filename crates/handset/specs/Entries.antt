-- The C entries, each with a tolerance, and at 1e-6: what each answers, and what the output then holds. Definitions only.
use Rattle.std.specs.Prelude.{ℕ, ◌*◌, ◌≡◌, cond, List, eqb, length, Ok, Err, Float}
use Rattle.checks.specs.Checks.{Check, passed, and_then, both}
use Rattle.checks.specs.declared.Refusal.TheVariants.{Length}
use Rattle.element_bytes.specs.Bytes.{element_size, value_bytes}
use Rattle.byte_chain.specs.Blocks as Blocks
use Rattle.sgal3_calls.specs.Composition as Composition
use Rattle.sgal3_calls.specs.Composition.{Answer}
use Rattle.sgal3_calls.specs.Outcomes.{element}

-- the number of an answer's outcome: 0, or the refusal's
unfoldable pub number : Answer → ℕ
number answer = (element answer).number

-- the output after a call: the bytes of the outcome's values where the number is 0, and otherwise what it held before
unfoldable pub written : Answer → List ℕ → List ℕ
written answer out = cond (eqb (number answer) 0) (value_bytes (element answer).values) out

-- what an entry ensures: its number, the output after it, and that a refusal leaves the output as it was
pub record Answered (answer : Answer) (before after : List ℕ) (r : ℕ) : Type 0 where
  pub returned : r ≡ number answer
  pub output : after ≡ written answer before
  pub untouched : (r ≡ 0 → ⊥) → after ≡ before

-- a block of another length than an element's is refused
unfoldable pub check_output : List ℕ → Check
check_output out = cond (eqb (length out) element_size) passed (Err (Length element_size (length out)))

-- an output block counts as one more block, after the inputs
unfoldable pub into : List ℕ → Answer → Answer
into out answer = and_then (both answer (check_output out)) (λ p. Ok p.0)

unfoldable pub compose : List ℕ → List ℕ → Float → List ℕ → Answer
compose left right tolerance out = into out (Composition.compose_answers (Blocks.check_block left tolerance) (Blocks.check_block right tolerance))

-- compose with the block held as the left one and as the output
unfoldable pub compose_in_place : List ℕ → List ℕ → Float → Answer
compose_in_place held step tolerance = compose held step tolerance held

unfoldable pub inverse : List ℕ → Float → List ℕ → Answer
inverse block tolerance out = into out (Composition.inverse_answer (Blocks.check_block block tolerance))

-- at most 4,096 blocks
unfoldable pub chain : List ℕ → Float → List ℕ → Answer
chain blocks tolerance out = into out (Blocks.chain (Composition.most_blocks * element_size) blocks tolerance)
