-- Elements of SGal(3): the formulas of the group at the rounded operations, and the eleven values of a block. Definitions only.
use Rattle.std.specs.Prelude.{ℕ, Bool, ◌&&◌, List, [], ◌∷◌, get_or, Float}
use Rattle.std.specs.Float.{nan}
use Rattle.law.specs.Rounded.{rounded}
use Rattle.law.specs.Rotation as Rotation
use Rattle.law.specs.Galilean as Law
use Rattle.law.specs.GalileanSeries as GalileanSeries
use Rattle.checks.specs.Checks.{all_finite}
use Rattle.linear.specs.Records.{vector, vec3, quaternion, of_quaternion, matrix, mat3}
use Rattle.linear.specs.declared.Vec3.{Vec3}
use Rattle.linear.specs.declared.Quaternion.{Quaternion}
use Rattle.linear.specs.declared.Mat3.{Mat3}
use Rattle.manifold.specs.Answers.{vector_at, quaternion_at}
use Rattle.so3.specs.Elements as So3Elements
use Rattle.so3.specs.Tangents as So3Tangents
use Rattle.so3.specs.declared.Tangent as Turns
use Rattle.so3.specs.declared.Element.{Element as So3Element}
use Rattle.sgal3.specs.Tangents.{of_tangent, s_nu_coupling}
use Rattle.sgal3.specs.declared.Element.{Element}
use Rattle.sgal3.specs.declared.Tangent.{Tangent}

-- the code's record and the formulas', field by field
abbrev pub element : Element → Law.Element Float
element a = record { translation = vector a.translation; rotation = quaternion a.rotation; velocity = vector a.velocity; time = a.time }

abbrev pub of_element : Law.Element Float → Element
of_element a = record { translation = vec3 a.translation; rotation = of_quaternion a.rotation; velocity = vec3 a.velocity; time = a.time }

unfoldable pub identity : Element
identity = of_element (Law.identity rounded)

-- normalised once
unfoldable pub rotation_impl : Element → So3Element
rotation_impl a = record { params = of_quaternion (Law.rotation_impl rounded (element a)) }

-- and once more
unfoldable pub rotation_quaternion : Element → Quaternion
rotation_quaternion a = of_quaternion (Rotation.unit_quaternion rounded (Law.rotation_impl rounded (element a)))

unfoldable pub rotation_matrix : Element → Mat3
rotation_matrix a = mat3 (Law.rotation_matrix rounded (element a))

unfoldable pub compose : Element → Element → Element
compose a b = of_element (Law.compose rounded (element a) (element b))

unfoldable pub inverse : Element → Element
inverse a = of_element (Law.inverse rounded (element a))

unfoldable pub normalize : Element → Element
normalize a = of_element (Law.normalize rounded (element a))

unfoldable pub act : Element → Vec3 → Vec3
act a p = vec3 (Law.act rounded (element a) (vector p))

-- the quaternion is seen after rotation_impl has normalised it
unfoldable pub is_valid : Element → Float → Bool
is_valid a tolerance =
    all_finite (a.translation.x ∷ a.translation.y ∷ a.translation.z ∷ a.velocity.x ∷ a.velocity.y ∷ a.velocity.z ∷ a.time ∷ [])
    && So3Elements.is_valid (rotation_impl a) tolerance

-- ---- log: by the rotation's log t, and the inverse of the left Jacobian and M of its theta
unfoldable pub log_by : Turns.Tangent → Mat3 → Mat3 → Element → Tangent
log_by t j m a = of_tangent (GalileanSeries.log_by rounded (matrix j) (matrix m) (vector t.theta) (element a))

unfoldable pub log : Element → Tangent
log a = let t = So3Elements.log (rotation_impl a) in log_by t (So3Tangents.left_jacobian_inv t) (s_nu_coupling t) a

-- how many values an element has
abbrev pub rep_size : ℕ
rep_size = 11

-- translation, quaternion w, x, y, z, velocity, time
unfoldable pub coeffs : Element → List Float
coeffs e =
    e.translation.x ∷ e.translation.y ∷ e.translation.z
    ∷ e.rotation.w ∷ e.rotation.x ∷ e.rotation.y ∷ e.rotation.z
    ∷ e.velocity.x ∷ e.velocity.y ∷ e.velocity.z
    ∷ e.time ∷ []

unfoldable pub element_of : List Float → Element
element_of s =
    record {
      translation = vector_at s 0;
      rotation = quaternion_at s 3;
      velocity = vector_at s 7;
      time = get_or s 10 nan;
    }
