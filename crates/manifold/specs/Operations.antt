-- The group-wide operations of lib.rs, by those of any group: plus, minus and between. Where a Jacobian is the identity it has no name here.
-- Definitions only.
use Rattle.manifold.specs.Group.{Group, Tangents}

module _ {G T J P D A : Type 0} (g : Group G T J P D) (h : Tangents G T J A) where
  -- a ∘ Exp t
  unfoldable pub right_plus : G → T → G
  right_plus a t = g.compose a (h.exp t)

  unfoldable pub right_plus_jacobian_self : G → T → D
  right_plus_jacobian_self a t = g.compose_jacobian_self a (h.exp t)

  -- Exp t ∘ a; with respect to a the Jacobian is the identity
  unfoldable pub left_plus : G → T → G
  left_plus a t = g.compose (h.exp t) a

module _ {G T J P D : Type 0} (g : Group G T J P D) where
  -- a⁻¹ ∘ b; with respect to b the Jacobian is the identity
  unfoldable pub between : G → G → G
  between a b = g.compose (g.inverse a) b

  -- the adjoint, opened and then negated
  unfoldable pub between_jacobian_self : (D → J) → (J → J) → G → G → J
  between_jacobian_self opened neg a b = neg (opened (g.adjoint (g.inverse (between a b))))

  -- a ∘ b⁻¹: minus on the left takes its log
  unfoldable pub left_between : G → G → G
  left_between a b = g.compose a (g.inverse b)

  -- Log (b⁻¹ ∘ a)
  unfoldable pub right_minus : G → G → T
  right_minus a b = g.log (between b a)

  -- Log (a ∘ b⁻¹)
  unfoldable pub left_minus : G → G → T
  left_minus a b = g.log (left_between a b)
