-- What is said of an element whose log is taken: how near its half-angle is. Definitions only.
use Rattle.std.specs.Prelude.{◌≡◌, List, Ok, Float}
use Rattle.half_angle.specs.HalfAngles.{HalfAngle}
use Rattle.law.specs.Quaternion.{Quaternion}
use Rattle.law.specs.Rotation as Rotation
use Rattle.law.specs.Rounded.{rounded}
use Rattle.manifold.specs.Group.{Group, try_from_param_slice}
use Rattle.manifold.specs.Operations as Operations
use Rattle.so3.specs.Elements as So3Elements
use Rattle.so3.specs.declared.Element.{Element as So3Element}
use Rattle.sgal3.specs.Elements as Elements
use Rattle.sgal3.specs.declared.Element.{Element}
use Rattle.sgal3_calls.specs.Composition.{Binary64}
use Rattle.unit_norm.specs.HalfAngle.{half_sine, half_cosine}

-- that a is the half-angle of the sine and the cosine that are read off a quaternion, normalised once more
abbrev pub ReadAs : Quaternion Float → Float → Type 0
ReadAs q a = let u = Rotation.unit_quaternion rounded q in HalfAngle (half_sine u) (half_cosine u) a

-- of SO(3), whose log normalises the quaternion, and of SGal(3), whose log takes SO(3)'s of what rotation_impl has normalised
abbrev pub RotationReads : So3Element → Type 0
RotationReads a = ReadAs (So3Elements.element a) (So3Elements.half_angle a)

abbrev pub ElementReads : Element → Type 0
ElementReads e = RotationReads (Elements.rotation_impl e)

-- in a group: of every block that passes, and of the two elements that minus takes the log of, made of two blocks that pass, each at a tolerance of its own
pub record AllRead {G T J P D : Type 0} (g : Group G T J P D) (Reads : G → Type 0) : Type 0 where
  pub block : (s : List Float) (t : Float) (a : G) → Binary64 s → try_from_param_slice g s t ≡ Ok a → Reads a
  pub right_minus : (left right : List Float) (s t : Float) (a b : G) → Binary64 left → Binary64 right
      → try_from_param_slice g left s ≡ Ok a → try_from_param_slice g right t ≡ Ok b → Reads (Operations.between g b a)
  pub left_minus : (left right : List Float) (s t : Float) (a b : G) → Binary64 left → Binary64 right
      → try_from_param_slice g left s ≡ Ok a → try_from_param_slice g right t ≡ Ok b → Reads (Operations.left_between g a b)
