-- SO(3): exp, log and the Jacobians where the angle is small, in the words of so3.rs: the series branch. Definitions only.
use Rattle.law.specs.Arithmetic.{Arithmetic}
use Rattle.law.specs.Vector as Vector
use Rattle.law.specs.Vector.{Vector}
use Rattle.law.specs.Matrix as Matrix
use Rattle.law.specs.Matrix.{Matrix}
use Rattle.law.specs.Quaternion as Quaternion
use Rattle.law.specs.Quaternion.{Quaternion}
use Rattle.law.specs.Rotation as Rotation

module _ {A : Type 0} (o : Arithmetic A) where
  open o use {one as 𝟙, two as 𝟚, div}

  -- (1, θ/2), normalised
  unfoldable pub exp : Vector A → Quaternion A
  exp θ = Rotation.unit_quaternion o (record { w = 𝟙; x = div θ.x 𝟚; y = div θ.y 𝟚; z = div θ.z 𝟚 })

  -- the vector part of a unit quaternion times k, log's coefficient: in the series 2, or -2 where w < 0
  unfoldable pub log_by : A → Quaternion A → Vector A
  log_by k q = Vector.scale o (Quaternion.vector o q) k

  unfoldable pub half : A
  half = div 𝟙 𝟚

  -- I + k·hat θ and I - k·hat θ
  unfoldable pub plus_hat : A → Vector A → Matrix A
  plus_hat k θ = Matrix.add o (Matrix.identity o) (Matrix.scale o (Matrix.hat o θ) k)

  unfoldable pub minus_hat : A → Vector A → Matrix A
  minus_hat k θ = Matrix.sub o (Matrix.identity o) (Matrix.scale o (Matrix.hat o θ) k)

  unfoldable pub left_jacobian : Vector A → Matrix A
  left_jacobian θ = plus_hat half θ

  unfoldable pub left_jacobian_inv : Vector A → Matrix A
  left_jacobian_inv θ = minus_hat half θ
