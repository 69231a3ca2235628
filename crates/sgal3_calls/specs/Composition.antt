-- The calls on blocks: compose, inverse and the chain, each with every refusal. Definitions only.
use Rattle.std.specs.Prelude.{ℕ, zero, suc, ◌*◌, ◌/◌, cond, List, T, length, get_or, take, drop, Result, Ok, Err, Float}
use Rattle.std.specs.Float.{nan, binary64}
use Rattle.std.specs.Float.Ieee.{fits}
use Rattle.checks.specs.Checks.{and_then, both, all_finite, check_tolerance, check_chain_length, check_param_block}
use Rattle.checks.specs.declared.Refusal.{Refusal}
use Rattle.checks.specs.declared.Refusal.TheVariants.{Overflow}
use Rattle.sgal3.specs.Elements as Elements
use Rattle.sgal3.specs.Elements.{rep_size}
use Rattle.sgal3.specs.declared.Element.{Element}

-- every value is a binary64, as every f64 is: what the theorems on times need to know of a block beyond its values
abbrev pub Binary64 : List Float → Type 0
Binary64 s = (i : ℕ) → T (fits binary64 (get_or s i nan))

abbrev pub Answer : Type 0
Answer = Result Element Refusal

-- the element of a block of eleven values, or why the block is refused
unfoldable pub check_element : List Float → Float → Answer
check_element s tolerance = and_then (check_param_block s rep_size 3 tolerance) (λ _. Ok (Elements.element_of s))

-- a value of the result that is not finite
unfoldable pub element_answer : Element → Answer
element_answer e = cond (all_finite (Elements.coeffs e)) (Ok e) (Err Overflow)

-- of two answers, of which one at least is refused, the refusal that is tried first
unfoldable pub compose_answers : Answer → Answer → Answer
compose_answers left right = and_then (both left right) (λ p. element_answer (Elements.compose p.0 p.1))

unfoldable pub inverse_answer : Answer → Answer
inverse_answer block = and_then block (λ a. element_answer (Elements.inverse a))

unfoldable pub compose : List Float → List Float → Float → Answer
compose left right tolerance = compose_answers (check_element left tolerance) (check_element right tolerance)

unfoldable pub inverse : List Float → Float → Answer
inverse block tolerance = inverse_answer (check_element block tolerance)

-- n blocks from the front of s, composed from left to right with what is held
unfoldable pub chain_from : Float → Answer → ℕ → List Float → Answer
chain_from tolerance held zero s = held
chain_from tolerance held (suc n) s = chain_from tolerance (compose_answers held (check_element (take rep_size s) tolerance)) n (drop rep_size s)

-- a chain starts with the identity; a tolerance that is not permitted is refused even if there is no block
unfoldable pub starts : Float → Answer
starts tolerance = and_then (check_tolerance tolerance) (λ _. Ok Elements.identity)

unfoldable pub chain_blocks : Float → ℕ → List Float → Answer
chain_blocks tolerance n s = chain_from tolerance (starts tolerance) n s

-- the most blocks of a chain
abbrev pub most_blocks : ℕ
most_blocks = 4096

unfoldable pub chain : List Float → Float → Answer
chain s tolerance = and_then (check_chain_length (length s) rep_size (most_blocks * rep_size)) (λ _. chain_blocks tolerance (length s / rep_size) s)
