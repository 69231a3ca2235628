-- `is_valid` keeps its own tolerance: whatever that is, no answer has the number 7. Assumes nothing.
use mathlib.Core.Path.{◌≡◌}
use mathlib.Core.Bool.{Bool, true, false, cond}
use mathlib.Core.List.{List}
use native.Mathlib.Omega.{arith}
use lib.Dec.{eqb}
use lib.ListN.{length}
use lib.Ieee.{Float}
use Rattle.std.specs.Prelude.{Ok, Err}
use Rattle.checks.specs.Refusals.{number}
use Rattle.checks.specs.Outcomes.{outcome}
use Rattle.checks.specs.Checks.{passed, and_then, check_length}
use Rattle.checks.specs.declared.Refusal.TheVariants.{Length}
use Rattle.manifold.specs.Group.{Group, from_param_slice}
use Rattle.manifold.specs.Outcomes.{valid}
use Rattle.manifold_calls.specs.Calls.{is_valid}

pub is-valid-never-7 : {G T J P D : Type 0} (g : Group G T J P D) (s : List Float) (tolerance : Float) → (valid (is_valid g s tolerance)).number ≡ 7 → ⊥
unfolding is_valid from_param_slice check_length valid outcome number
is-valid-never-7 g s tolerance = go (eqb (length s) g.rep_size)
  where
    go : (b : Bool)
        → (valid (and_then (and_then (cond b passed (Err (Length g.rep_size (length s)))) (λ _. Ok (g.element_of s))) (λ a. Ok (g.is_valid a tolerance)))).number ≡ 7 → ⊥
    go true h = omega arith
    go false h = omega arith
