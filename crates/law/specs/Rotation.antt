-- SO(3): rotations by unit quaternions, in the words of so3.rs. A quaternion is stored as given, and each operation normalises it first. Definitions only.
use Rattle.law.specs.Arithmetic.{Arithmetic}
use Rattle.law.specs.Vector.{Vector}
use Rattle.law.specs.Matrix as Matrix
use Rattle.law.specs.Matrix.{Matrix}
use Rattle.law.specs.Quaternion as Quaternion
use Rattle.law.specs.Quaternion.{Quaternion}

module _ {A : Type 0} (o : Arithmetic A) where
  unfoldable pub unit_quaternion : Quaternion A → Quaternion A
  unit_quaternion q = Quaternion.normalize o q

  unfoldable pub rotation_matrix : Quaternion A → Matrix A
  rotation_matrix q = Quaternion.rotation_matrix o (unit_quaternion q)

  -- a product is not normalised again
  unfoldable pub compose : Quaternion A → Quaternion A → Quaternion A
  compose q r = Quaternion.mul o (unit_quaternion q) (unit_quaternion r)

  unfoldable pub inverse : Quaternion A → Quaternion A
  inverse q = Quaternion.conjugate o (unit_quaternion q)

  unfoldable pub act : Quaternion A → Vector A → Vector A
  act q p = Quaternion.rotate o (unit_quaternion q) p

  unfoldable pub adjoint : Quaternion A → Matrix A
  adjoint q = rotation_matrix q

  -- divides by the norm twice
  unfoldable pub normalize : Quaternion A → Quaternion A
  normalize q = unit_quaternion (Quaternion.normalize o q)

  unfoldable pub lie_bracket : Vector A → Vector A → Vector A
  lie_bracket θ φ = Matrix.apply o (Matrix.hat o θ) φ

  -- ---- Jacobians
  unfoldable pub inverse_jacobian : Quaternion A → Matrix A
  inverse_jacobian q = Matrix.neg o (adjoint q)

  -- of compose q r with respect to q; with respect to r it is the identity
  unfoldable pub compose_jacobian_self : Quaternion A → Quaternion A → Matrix A
  compose_jacobian_self q r = adjoint (inverse r)

  -- of act q p with respect to q, the rotation negated before the product; with respect to p it is the rotation
  unfoldable pub act_jacobian_self : Quaternion A → Vector A → Matrix A
  act_jacobian_self q p = Matrix.mul o (Matrix.neg o (rotation_matrix q)) (Matrix.hat o p)
