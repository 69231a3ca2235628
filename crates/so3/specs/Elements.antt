-- Elements of SO(3): the formulas of the group at the rounded operations. Definitions only.
use Rattle.std.specs.Prelude.{ℕ, Bool, false, cond, List, [], ◌∷◌, Float}
use Rattle.std.specs.Float.{binary64}
use Rattle.std.specs.Float.Ieee.{sub, neg, lt}
use Rattle.std.specs.Float.Ieee.Scale.{finite}
use Rattle.float.specs.Exact.{abs}
use Rattle.float.specs.Root.{square_root}
use Rattle.half_angle.specs.HalfAngles as HalfAngles
use Rattle.checks.specs.Checks.{norm_of}
use Rattle.law.specs.Rounded.{rounded}
use Rattle.law.specs.Vector as Vector
use Rattle.law.specs.Quaternion as Law-as-Quaternion
use Rattle.law.specs.Rotation as Law
use Rattle.law.specs.Series as Series
use Rattle.law.specs.ClosedForms as ClosedForms
use Rattle.linear.specs.Records.{vector, vec3, quaternion, of_quaternion, mat3}
use Rattle.linear.specs.declared.Vec3.{Vec3}
use Rattle.linear.specs.declared.Quaternion.{Quaternion}
use Rattle.linear.specs.declared.Mat3.{Mat3}
use Rattle.manifold.specs.Answers.{quaternion_at}
use Rattle.manifold.specs.Answers as Answers
use Rattle.so3.specs.declared.Element.{Element}
use Rattle.so3.specs.declared.Tangent.{Tangent}

abbrev pub element : Element → Law-as-Quaternion.Quaternion Float
element a = quaternion a.params

abbrev pub of_element : Law-as-Quaternion.Quaternion Float → Element
of_element q = record { params = of_quaternion q }

-- how many values an element has
abbrev pub rep_size : ℕ
rep_size = 4

-- w, x, y, z
unfoldable pub values : Element → List Float
values a = a.params.w ∷ a.params.x ∷ a.params.y ∷ a.params.z ∷ []

-- a block's four values are kept as given
unfoldable pub element_of : List Float → Element
element_of s = record { params = quaternion_at s 0 }

unfoldable pub identity : Element
identity = of_element (Law-as-Quaternion.identity rounded)

-- as given
unfoldable pub new : Quaternion → Element
new q = record { params = q }

-- normalised once
unfoldable pub from_quaternion_wxyz : Float → Float → Float → Float → Element
from_quaternion_wxyz w x y z = of_element (Law.unit_quaternion rounded (record { w = w; x = x; y = y; z = z }))

unfoldable pub unit_quaternion : Element → Quaternion
unit_quaternion a = of_quaternion (Law.unit_quaternion rounded (element a))

unfoldable pub rotation_matrix : Element → Mat3
rotation_matrix a = mat3 (Law.rotation_matrix rounded (element a))

unfoldable pub inverse : Element → Element
inverse a = of_element (Law.inverse rounded (element a))

unfoldable pub compose : Element → Element → Element
compose a b = of_element (Law.compose rounded (element a) (element b))

unfoldable pub act : Element → Vec3 → Vec3
act a p = vec3 (Law.act rounded (element a) (vector p))

unfoldable pub adjoint : Element → Mat3
adjoint a = mat3 (Law.adjoint rounded (element a))

unfoldable pub normalize : Element → Element
normalize a = of_element (Law.normalize rounded (element a))

-- ---- log, of a unit quaternion q: the norm of its vector part is the sine of half the angle, |w| the cosine
unfoldable pub sin_angle_squared : Quaternion → Float
sin_angle_squared q = Vector.norm_squared rounded (Law-as-Quaternion.vector rounded (quaternion q))

unfoldable pub half_angle_of : Quaternion → Float
half_angle_of q = HalfAngles.half_angle (square_root (sin_angle_squared q)) (abs q.w)

-- a, or -a where w < 0: q and -q are the same rotation
unfoldable pub mirrored : Float → Float → Float
mirrored w a = cond (lt w rounded.zero) (neg a) a

-- above the limit by the half-angle; up to it 2, or -2 where w < 0
unfoldable pub log_coeff : Quaternion → Float
log_coeff q =
    let t = sin_angle_squared q in
    cond (Answers.leaves_series t)
    (ClosedForms.log_coefficient rounded (mirrored q.w (half_angle_of q)) (square_root t))
    (mirrored q.w rounded.two)

unfoldable pub half_angle : Element → Float
half_angle a = half_angle_of (unit_quaternion a)

unfoldable pub log : Element → Tangent
log a = let q = unit_quaternion a in record { theta = vec3 (Series.log_by rounded (log_coeff q) (quaternion q)) }

-- a norm less than the tolerance from 1, and a finite tolerance
unfoldable pub is_valid : Element → Float → Bool
is_valid a tolerance =
    cond (finite tolerance)
    (lt (abs (sub binary64 (norm_of (a.params.w ∷ a.params.x ∷ a.params.y ∷ a.params.z ∷ [])) rounded.one)) tolerance)
    false

unfoldable pub inverse_jacobian : Element → Mat3
inverse_jacobian a = mat3 (Law.inverse_jacobian rounded (element a))

unfoldable pub compose_jacobian_self : Element → Element → Mat3
compose_jacobian_self a b = mat3 (Law.compose_jacobian_self rounded (element a) (element b))

unfoldable pub act_jacobian_self : Element → Vec3 → Mat3
act_jacobian_self a p = mat3 (Law.act_jacobian_self rounded (element a) (vector p))
