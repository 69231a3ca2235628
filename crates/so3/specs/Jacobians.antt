-- The Jacobians of plus and minus that SO(3) alone has: for SGal(3) the source takes central differences, which are left out. Those of any group are in manifold/specs/Operations.antt.
-- Definitions only.
use Rattle.linear.specs.Matrices as Matrices
use Rattle.linear.specs.declared.Mat3.{Mat3}
use Rattle.so3.specs.Elements as Elements
use Rattle.so3.specs.Tangents as Tangents
use Rattle.so3.specs.declared.Element.{Element}
use Rattle.so3.specs.declared.Tangent.{Tangent}

-- of Exp t ∘ a with respect to t; of a ∘ Exp t it is the right Jacobian at t
unfoldable pub left_plus_jacobian_tangent : Element → Tangent → Mat3
left_plus_jacobian_tangent a t = Matrices.mul (Elements.adjoint (Elements.inverse a)) (Tangents.right_jacobian t)

-- ---- of minus, at its answer t; of a minus b on the right with respect to a, and of log, it is the inverse of the right Jacobian
unfoldable pub right_minus_jacobian_other : Tangent → Mat3
right_minus_jacobian_other t = Matrices.neg (Tangents.left_jacobian_inv t)

-- of a minus b on the left with respect to a, and to b
unfoldable pub left_minus_jacobian_self : Tangent → Element → Mat3
left_minus_jacobian_self t b = Matrices.mul (Tangents.right_jacobian_inv t) (Elements.adjoint b)

unfoldable pub left_minus_jacobian_other : Tangent → Element → Mat3
left_minus_jacobian_other t b = Matrices.neg (left_minus_jacobian_self t b)
