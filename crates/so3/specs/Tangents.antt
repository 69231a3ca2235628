-- Tangents of SO(3): exp and the Jacobians at the rounded operations, by their series up to the limit, by their closed forms above it. Definitions only.
use Rattle.std.specs.Prelude.{ℕ, Bool, cond, List, eqb, Float}
use Rattle.std.specs.Float.{binary64}
use Rattle.std.specs.Float.Ieee.{of_bits, lt}
use Rattle.law.specs.Rounded.{rounded}
use Rattle.law.specs.Vector as Law-as-Vector
use Rattle.law.specs.Matrix as Law-as-Matrix
use Rattle.law.specs.Rotation as Law
use Rattle.law.specs.Series as Series
use Rattle.law.specs.ClosedForms as ClosedForms
use Rattle.linear.specs.Records.{vector, vec3, of_quaternion, mat3, vector_values}
use Rattle.linear.specs.Matrices as Matrices
use Rattle.manifold.specs.Answers.{vector_at}
use Rattle.manifold.specs.Answers as Answers
use Rattle.linear.specs.declared.Vec3.{Vec3}
use Rattle.linear.specs.declared.Mat3.{Mat3}
use Rattle.so3.specs.Angles.{angle, of_square}
use Rattle.so3.specs.declared.Angle.{Angle}
use Rattle.so3.specs.declared.Element.{Element}
use Rattle.so3.specs.declared.Tangent.{Tangent}

abbrev θ : Tangent → Law-as-Vector.Vector Float
θ a = vector a.theta

abbrev tangent : Law-as-Vector.Vector Float → Tangent
tangent v = record { theta = vec3 v }

-- how many values a tangent has
abbrev pub dof : ℕ
dof = 3

unfoldable pub values : Tangent → List Float
values a = vector_values a.theta

unfoldable pub tangent_of : List Float → Tangent
tangent_of s = record { theta = vector_at s 0 }

unfoldable pub zero : Tangent
zero = tangent (Law-as-Vector.zero rounded)

unfoldable pub theta_squared : Tangent → Float
theta_squared a = Law-as-Vector.norm_squared rounded (θ a)

-- above the limit exp and the Jacobians leave their series
unfoldable pub leaves_series : Tangent → Bool
leaves_series a = Answers.leaves_series (theta_squared a)

-- a squared angle above 9: the calls of exp, plus, log and minus, and of their Jacobians, refuse it
unfoldable pub turn_too_large : Tangent → Bool
turn_too_large a = Answers.turn_too_large (theta_squared a)

-- ---- exp
unfoldable pub exp_series : Tangent → Element
exp_series a = record { params = of_quaternion (Series.exp rounded (θ a)) }

-- half of theta, whose norm is half the angle
abbrev pub half : Tangent → Law-as-Vector.Vector Float
half a = Law-as-Vector.divide rounded (θ a) rounded.two

abbrev pub angle_of_half : Tangent → Angle
angle_of_half a = of_square (Law-as-Vector.norm_squared rounded (half a))

unfoldable pub exp_closed : Tangent → Element
exp_closed a = record { params = of_quaternion (ClosedForms.exp rounded (angle (angle_of_half a)) (half a)) }

unfoldable pub exp : Tangent → Element
exp a = cond (leaves_series a) (exp_closed a) (exp_series a)

-- ---- the Jacobians
unfoldable pub left_jacobian_series : Tangent → Mat3
left_jacobian_series a = mat3 (Series.left_jacobian rounded (θ a))

unfoldable pub left_jacobian_closed : Angle → Tangent → Mat3
left_jacobian_closed w a = mat3 (ClosedForms.left_jacobian rounded (angle w) (θ a))

unfoldable pub left_jacobian : Tangent → Mat3
left_jacobian a = cond (leaves_series a) (left_jacobian_closed (of_square (theta_squared a)) a) (left_jacobian_series a)

unfoldable pub right_jacobian : Tangent → Mat3
right_jacobian a = Matrices.transpose (left_jacobian a)

-- ---- their inverses
unfoldable pub left_jacobian_inv_series : Tangent → Mat3
left_jacobian_inv_series a = mat3 (Series.left_jacobian_inv rounded (θ a))

unfoldable pub left_jacobian_inv_closed : Angle → Tangent → Mat3
left_jacobian_inv_closed w a = mat3 (ClosedForms.left_jacobian_inv rounded (angle w) (θ a))

unfoldable pub left_jacobian_inv : Tangent → Mat3
left_jacobian_inv a = cond (leaves_series a) (left_jacobian_inv_closed (of_square (theta_squared a)) a) (left_jacobian_inv_series a)

unfoldable pub right_jacobian_inv : Tangent → Mat3
right_jacobian_inv a = Matrices.transpose (left_jacobian_inv a)

unfoldable pub hat : Tangent → Mat3
hat a = mat3 (Law-as-Matrix.hat rounded (θ a))

unfoldable pub small_adj : Tangent → Mat3
small_adj a = hat a

unfoldable pub lie_bracket : Tangent → Tangent → Tangent
lie_bracket a b = tangent (Law.lie_bracket rounded (θ a) (θ b))

-- 2 ^ -52
abbrev epsilon : Float
epsilon = of_bits binary64 0x3cb0_0000_0000_0000

abbrev divided : Tangent → Tangent
divided a = tangent (Law-as-Vector.divide rounded (θ a) (Law-as-Vector.norm rounded (θ a)))

-- a norm not above epsilon gives `small`
unfoldable pub unit_or : Tangent → Tangent → Tangent
unit_or a small = cond (lt epsilon (Law-as-Vector.norm rounded (θ a))) (divided a) small

-- it leaves the tangent
unfoldable pub normalize : Tangent → Tangent
normalize a = unit_or a a

-- it makes it zero
unfoldable pub normalized : Tangent → Tangent
normalized a = unit_or a zero

-- ---- generators
abbrev 𝟘 : Float
𝟘 = rounded.zero

abbrev 𝟙 : Float
𝟙 = rounded.one

abbrev -𝟙 : Float
-𝟙 = rounded.neg 𝟙

abbrev row : Float → Float → Float → Vec3
row x y z = record { x = x; y = y; z = z }

unfoldable pub about_x : Mat3
about_x = record { row0 = row 𝟘 𝟘 𝟘; row1 = row 𝟘 𝟘 -𝟙; row2 = row 𝟘 𝟙 𝟘 }

unfoldable pub about_y : Mat3
about_y = record { row0 = row 𝟘 𝟘 𝟙; row1 = row 𝟘 𝟘 𝟘; row2 = row -𝟙 𝟘 𝟘 }

unfoldable pub about_z : Mat3
about_z = record { row0 = row 𝟘 -𝟙 𝟘; row1 = row 𝟙 𝟘 𝟘; row2 = row 𝟘 𝟘 𝟘 }

-- of turns about axis i; the zero matrix from i = 3
unfoldable pub generator : ℕ → Mat3
generator i =
    cond (eqb i 0) about_x (cond (eqb i 1) about_y (cond (eqb i 2) about_z Matrices.zero))
