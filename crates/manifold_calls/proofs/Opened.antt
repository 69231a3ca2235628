-- A call that answers with a whole adjoint answers with what the short call does, opened, and is refused exactly where that is, with the same refusal. Assumes nothing.
use mathlib.Core.Path.{◌≡◌, refl, ap, ◌∙◌}
use mathlib.Core.Bool.{Bool, true, false, cond}
use mathlib.Core.List.{List}
use lib.Ieee.{Float}
use Rattle.std.specs.Prelude.{Result, Ok, Err}
use Rattle.checks.specs.Checks.{and_then, all_finite}
use Rattle.checks.specs.declared.Refusal.{Refusal}
use Rattle.checks.specs.declared.Refusal.TheVariants.{Overflow}
use Rattle.manifold.specs.Answers.{answered}
use Rattle.manifold.specs.Group.{Group, Tangents}
use Rattle.manifold.specs.Operations as Operations
use Rattle.manifold_calls.specs.Calls as Calls

-- `whole` and `short` list the values of a matrix and of its short form
module _ {J D : Type 0} (whole : J → List Float) (short : D → List Float) (opened : D → J) (same : (d : D) → all_finite (whole (opened d)) ≡ all_finite (short d)) where
  open-answer : (d : D) → answered whole (opened d) ≡ and_then (answered short d) (λ e. Ok (opened e))
  unfolding answered
  open-answer d = ap (λ (b : Bool). cond b (Ok (opened d)) (Err Overflow)) (same d) ∙ go (all_finite (short d))
    where
      go : (b : Bool) → cond b (Ok (opened d)) (Err Overflow) ≡ and_then (cond b (Ok d) (Err Overflow)) (λ e. Ok (opened e))
      go true = refl
      go false = refl

  -- of any operation f, after any check
  opens : {A : Type 0} (f : A → D) (checked : Result A Refusal)
      → and_then checked (λ a. answered whole (opened (f a))) ≡ and_then (and_then checked (λ a. answered short (f a))) (λ d. Ok (opened d))
  opens f (Ok a) = open-answer (f a)
  opens f (Err r) = refl

  module _ {G T P : Type 0} (g : Group G T J P D) where
    pub adjoint-opened : (block : List Float) (tolerance : Float)
        → Calls.adjoint g whole opened block tolerance ≡ and_then (Calls.short_adjoint g short block tolerance) (λ d. Ok (opened d))
    unfolding Calls.adjoint Calls.short_adjoint
    adjoint-opened block tolerance = opens g.adjoint (Calls.element g block tolerance)

    pub compose_jacobian_self-opened : (left right : List Float) (tolerance : Float)
        → Calls.compose_jacobian_self g whole opened left right tolerance ≡ and_then (Calls.short_compose_jacobian_self g short left right tolerance) (λ d. Ok (opened d))
    unfolding Calls.compose_jacobian_self Calls.short_compose_jacobian_self
    compose_jacobian_self-opened left right tolerance = opens (λ p. g.compose_jacobian_self p.0 p.1) (Calls.elements g left right tolerance)

  pub right_plus_jacobian_self-opened : {G T P A : Type 0} (g : Group G T J P D) (h : Tangents G T J A) (block s : List Float) (tolerance : Float)
      → Calls.right_plus_jacobian_self g h whole opened block s tolerance ≡ and_then (Calls.short_right_plus_jacobian_self g h short block s tolerance) (λ d. Ok (opened d))
  unfolding Calls.right_plus_jacobian_self Calls.short_right_plus_jacobian_self
  right_plus_jacobian_self-opened g h block s tolerance = opens (λ p. Operations.right_plus_jacobian_self g h p.0 p.1) (Calls.within_plus g h block s tolerance)
