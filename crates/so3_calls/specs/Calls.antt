-- The calls on blocks that SO(3) alone has, and sine and cosine, each with every refusal. Definitions only.
use Rattle.std.specs.Prelude.{cond, [], ◌∷◌, List, Result, Ok, Err, Float}
use Rattle.std.specs.Float.Ieee.{lt}
use Rattle.std.specs.Float.Ieee.Scale.{finite}
use Rattle.float.specs.Exact.{abs}
use Rattle.trigonometry.specs.Sines as Sines
use Rattle.trigonometry.specs.Taylor.{four}
use Rattle.checks.specs.Checks.{Check, and_then, check_unit_quaternion}
use Rattle.checks.specs.declared.Refusal.{Refusal}
use Rattle.checks.specs.declared.Refusal.TheVariants.{NotFinite}
use Rattle.linear.specs.Records.{matrix_values}
use Rattle.linear.specs.declared.Mat3.{Mat3}
use Rattle.manifold.specs.Answers.{answered, within}
use Rattle.manifold_calls.specs.Calls as Calls
use Rattle.so3.specs.Elements as Elements
use Rattle.so3.specs.Tangents as Tangents
use Rattle.so3.specs.Jacobians as Jacobians
use Rattle.so3.specs.Group.{group, tangents}
use Rattle.so3.specs.declared.Element.{Element}

-- the one call of four values instead of a block: normalised once
unfoldable pub try_from_quaternion_wxyz : Float → Float → Float → Float → Float → Result Element Refusal
try_from_quaternion_wxyz w x y z tolerance =
    and_then (check_unit_quaternion (w ∷ x ∷ y ∷ z ∷ []) tolerance) (λ _. answered Elements.values (Elements.from_quaternion_wxyz w x y z))

-- of the unit quaternion that log reads
unfoldable pub half_angle : List Float → Float → Result Float Refusal
half_angle block tolerance = and_then (Calls.element group block tolerance) (λ a. Ok (Elements.half_angle a))

-- ---- Jacobians of log and exp: refused where log and exp are
-- the inverse of the right one, at log's answer
unfoldable pub log_jacobian : List Float → Float → Result Mat3 Refusal
log_jacobian block tolerance = and_then (Calls.within_log group tangents block tolerance) (λ t. answered matrix_values (Tangents.right_jacobian_inv t))

unfoldable pub left_jacobian : List Float → Result Mat3 Refusal
left_jacobian tangent = and_then (Calls.within_exp tangents tangent) (λ t. answered matrix_values (Tangents.left_jacobian t))

unfoldable pub right_jacobian : List Float → Result Mat3 Refusal
right_jacobian tangent = and_then (Calls.within_exp tangents tangent) (λ t. answered matrix_values (Tangents.right_jacobian t))

unfoldable pub left_jacobian_inv : List Float → Result Mat3 Refusal
left_jacobian_inv tangent = and_then (Calls.within_exp tangents tangent) (λ t. answered matrix_values (Tangents.left_jacobian_inv t))

unfoldable pub right_jacobian_inv : List Float → Result Mat3 Refusal
right_jacobian_inv tangent = and_then (Calls.within_exp tangents tangent) (λ t. answered matrix_values (Tangents.right_jacobian_inv t))

-- ---- of plus with respect to its tangent
unfoldable pub right_plus_jacobian_tangent : List Float → List Float → Float → Result Mat3 Refusal
right_plus_jacobian_tangent block tangent tolerance = and_then (Calls.within_plus group tangents block tangent tolerance) (λ p. answered matrix_values (Tangents.right_jacobian p.1))

unfoldable pub left_plus_jacobian_tangent : List Float → List Float → Float → Result Mat3 Refusal
left_plus_jacobian_tangent block tangent tolerance =
    and_then (Calls.within_plus group tangents block tangent tolerance) (λ p. answered matrix_values (Jacobians.left_plus_jacobian_tangent p.0 p.1))

-- ---- of minus, at its answer: refused where minus is
unfoldable pub right_minus_jacobian_self : List Float → List Float → Float → Result Mat3 Refusal
right_minus_jacobian_self left right tolerance =
    and_then (Calls.within_right_minus group tangents left right tolerance) (λ t. answered matrix_values (Tangents.right_jacobian_inv t))

unfoldable pub right_minus_jacobian_other : List Float → List Float → Float → Result Mat3 Refusal
right_minus_jacobian_other left right tolerance =
    and_then (Calls.within_right_minus group tangents left right tolerance) (λ t. answered matrix_values (Jacobians.right_minus_jacobian_other t))

unfoldable pub left_minus_jacobian_self : List Float → List Float → Float → Result Mat3 Refusal
left_minus_jacobian_self left right tolerance =
    and_then (Calls.within_left_minus group tangents left right tolerance) (λ p. answered matrix_values (Jacobians.left_minus_jacobian_self p.0 p.1))

unfoldable pub left_minus_jacobian_other : List Float → List Float → Float → Result Mat3 Refusal
left_minus_jacobian_other left right tolerance =
    and_then (Calls.within_left_minus group tangents left right tolerance) (λ p. answered matrix_values (Jacobians.left_minus_jacobian_other p.0 p.1))

-- ---- sine and cosine: a number that is not finite is refused, and then a magnitude above 4
unfoldable pub check_angle : Float → Check
check_angle x = cond (finite x) (within (lt four (abs x))) (Err NotFinite)

unfoldable pub sine : Float → Result Float Refusal
sine x = and_then (check_angle x) (λ _. Ok (Sines.sine x))

unfoldable pub cosine : Float → Result Float Refusal
cosine x = and_then (check_angle x) (λ _. Ok (Sines.cosine x))
