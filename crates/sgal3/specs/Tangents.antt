-- Tangents of SGal(3): exp at the rounded operations, and the ten values of a tangent. Definitions only.
use Rattle.std.specs.Prelude.{ℕ, cond, List, [], ◌∷◌, get_or, Float}
use Rattle.std.specs.Float.{nan}
use Rattle.law.specs.Rounded.{rounded, divisors}
use Rattle.law.specs.Vector as Vector
use Rattle.law.specs.Galilean as Law
use Rattle.law.specs.GalileanSeries as GalileanSeries
use Rattle.law.specs.ClosedForms as ClosedForms
use Rattle.linear.specs.Records.{vector, vec3, quaternion, of_quaternion, matrix, mat3}
use Rattle.linear.specs.declared.Vec3.{Vec3}
use Rattle.linear.specs.declared.Mat3.{Mat3}
use Rattle.so3.specs.Angles.{angle, of_square}
use Rattle.so3.specs.Tangents as So3Tangents
use Rattle.so3.specs.declared.Angle.{Angle}
use Rattle.so3.specs.declared.Element as Rotations
use Rattle.so3.specs.declared.Tangent as Turns
use Rattle.sgal3.specs.declared.Element.{Element}
use Rattle.sgal3.specs.declared.Tangent.{Tangent}

-- the code's record and the formulas', field by field
abbrev pub tangent : Tangent → Law.Tangent Float
tangent a = record { rho = vector a.rho; nu = vector a.nu; theta = vector a.theta; s = a.s }

abbrev pub of_tangent : Law.Tangent Float → Tangent
of_tangent a = record { rho = vec3 a.rho; nu = vec3 a.nu; theta = vec3 a.theta; s = a.s }

unfoldable pub zero : Tangent
zero =
    of_tangent
    (record { rho = Vector.zero rounded; nu = Vector.zero rounded; theta = Vector.zero rounded; s = rounded.zero })

-- theta as a tangent of SO(3), and put back
unfoldable pub turn : Tangent → Turns.Tangent
turn a = record { theta = a.theta }

unfoldable pub with_theta : Tangent → Turns.Tangent → Tangent
with_theta a t = record { rho = a.rho; nu = a.nu; theta = t.theta; s = a.s }

-- ---- M: by its coefficients; by its series up to the limit, by its closed form above it
unfoldable pub coupling_by : Float → Float → Vec3 → Mat3
coupling_by a b θ = mat3 (GalileanSeries.coupling_by rounded a b (vector θ))

unfoldable pub s_nu_coupling_series : Vec3 → Mat3
s_nu_coupling_series θ = mat3 (GalileanSeries.s_nu_coupling rounded divisors (vector θ))

unfoldable pub s_nu_coupling_closed : Angle → Vec3 → Mat3
s_nu_coupling_closed w θ = mat3 (ClosedForms.s_nu_coupling rounded (angle w) (vector θ))

unfoldable pub s_nu_coupling : Turns.Tangent → Mat3
s_nu_coupling t = cond (So3Tangents.leaves_series t) (s_nu_coupling_closed (of_square (So3Tangents.theta_squared t)) t.theta) (s_nu_coupling_series t.theta)

-- ---- exp: by the rotation, and the left Jacobian and M of theta
unfoldable pub exp_by : Rotations.Element → Mat3 → Mat3 → Tangent → Element
exp_by r j m a =
    let e = GalileanSeries.exp_by rounded (matrix j) (matrix m) (quaternion r.params) (tangent a) in
    record { translation = vec3 e.translation; rotation = of_quaternion e.rotation; velocity = vec3 e.velocity; time = e.time }

unfoldable pub exp : Tangent → Element
exp a = let t = turn a in exp_by (So3Tangents.exp t) (So3Tangents.left_jacobian t) (s_nu_coupling t) a

-- SO(3)'s, of theta: a norm not above 2^-52 leaves it
unfoldable pub normalize : Tangent → Tangent
normalize a = with_theta a (So3Tangents.normalize (turn a))

-- SO(3)'s, of theta: a norm not above 2^-52 makes it zero
unfoldable pub normalized : Tangent → Tangent
normalized a = with_theta a (So3Tangents.normalized (turn a))

-- how many values a tangent has
abbrev pub dof : ℕ
dof = 10

unfoldable pub coeffs : Tangent → List Float
coeffs a =
    a.rho.x ∷ a.rho.y ∷ a.rho.z
    ∷ a.nu.x ∷ a.nu.y ∷ a.nu.z
    ∷ a.theta.x ∷ a.theta.y ∷ a.theta.z
    ∷ a.s ∷ []

unfoldable pub tangent_of : List Float → Tangent
tangent_of s =
    record {
      rho = record { x = get_or s 0 nan; y = get_or s 1 nan; z = get_or s 2 nan };
      nu = record { x = get_or s 3 nan; y = get_or s 4 nan; z = get_or s 5 nan };
      theta = record { x = get_or s 6 nan; y = get_or s 7 nan; z = get_or s 8 nan };
      s = get_or s 9 nan;
    }
