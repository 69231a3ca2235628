-- The scope's order of refusals, literally: each number is tried over all blocks from left to right before the next; only blocks that all pass are composed.
-- Definitions only.
use Rattle.std.specs.Prelude.{ℕ, zero, suc, List, [], ◌∷◌, take, drop, Ok, Err, Float}
use Rattle.checks.specs.Refusals.{tried, in_turn}
use Rattle.checks.specs.declared.Refusal.{Refusal}
use Rattle.sgal3.specs.Elements as Elements
use Rattle.sgal3.specs.Elements.{rep_size}
use Rattle.sgal3_calls.specs.Composition.{Answer, check_element, element_answer}

-- the answers of n blocks from the front of s, from left to right
unfoldable pub checks : Float → ℕ → List Float → List Answer
checks tolerance zero s = []
checks tolerance (suc n) s = check_element (take rep_size s) tolerance ∷ checks tolerance n (drop rep_size s)

unfoldable pub refusals : List Answer → List Refusal
refusals [] = []
refusals (Ok e ∷ os) = refusals os
refusals (Err r ∷ os) = r ∷ refusals os

-- one step after the other, until a partial element is not finite: that refusal stays
unfoldable pub step : Answer → Answer → Answer
step (Ok a) (Ok b) = element_answer (Elements.compose a b)
step (Ok a) (Err r) = Err r
step (Err r) o = Err r

unfoldable pub compose_all : List Answer → Answer → Answer
compose_all [] held = held
compose_all (o ∷ os) held = compose_all os (step held o)

-- the numbers of `tried`, one after the other, or else the composition
unfoldable pub unless_refused : List Refusal → Answer → Answer
unless_refused [] answer = answer
unless_refused (r ∷ rs) answer = Err (in_turn tried (r ∷ rs) r)

-- `first` is what stands before the blocks: the identity, or the refusal of the tolerance
unfoldable pub in_order : Answer → List Answer → Answer
in_order first os = unless_refused (refusals (first ∷ os)) (compose_all os first)
