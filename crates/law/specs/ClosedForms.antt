-- SO(3) and SGal(3) where the angle is not small, over whatever sine and cosine it is given with: log's coefficient, the left Jacobian, its inverse
-- and M in the words of so3.rs and sgal3.rs, exp by a textbook, for nalgebra's from_scaled_axis. Definitions only.
use Rattle.law.specs.Arithmetic.{Arithmetic}
use Rattle.law.specs.Vector.{Vector}
use Rattle.law.specs.Matrix as Matrix
use Rattle.law.specs.Matrix.{Matrix}
use Rattle.law.specs.Quaternion.{Quaternion}
use Rattle.law.specs.Series as Series
use Rattle.law.specs.GalileanSeries as GalileanSeries

-- an angle, with its square, its sine and its cosine
pub record Angle (A : Type 0) : Type 0 where
  pub squared : A
  pub angle : A
  pub sine : A
  pub cosine : A

module _ {A : Type 0} (o : Arithmetic A) where
  infixl 60 ◌⊕◌ ◌⊖◌
  infixl 70 ◌⊗◌ ◌⊘◌
  open o use {one as 𝟙, two as 𝟚, add as ◌⊕◌, sub as ◌⊖◌, mul as ◌⊗◌, div as ◌⊘◌}

  -- (c, k·h)
  unfoldable pub exp_by : A → A → Vector A → Quaternion A
  exp_by c k h = record { w = c; x = h.x ⊗ k; y = h.y ⊗ k; z = h.z ⊗ k }

  -- (I + a·hat θ) + (b·hat θ)·hat θ
  unfoldable pub left_jacobian_by : A → A → Vector A → Matrix A
  left_jacobian_by a b θ =
      let h = Matrix.hat o θ in
      Matrix.add o (Matrix.add o (Matrix.identity o) (Matrix.scale o h a)) (Matrix.mul o (Matrix.scale o h b) h)

  -- (I - ½·hat θ) + (k·hat θ)·hat θ
  unfoldable pub left_jacobian_inv_by : A → Vector A → Matrix A
  left_jacobian_inv_by k θ =
      let h = Matrix.hat o θ in
      Matrix.add o (Series.left_jacobian_inv o θ) (Matrix.mul o (Matrix.scale o h k) h)

  -- (cos n, (sin n / n)·h), where h is half of θ and n its norm: it is not normalised
  unfoldable pub exp : Angle A → Vector A → Quaternion A
  exp n h = exp_by n.cosine (n.sine ⊘ n.angle) h

  -- log: what the vector part of a unit quaternion is multiplied by. s is its norm, and a the half-angle, or minus that where w < 0
  unfoldable pub log_coefficient : A → A → A
  log_coefficient a s = 𝟚 ⊗ a ⊘ s

  -- a = (1 - cos w)/w², b = (w - sin w)/(w²·w)
  unfoldable pub left_jacobian : Angle A → Vector A → Matrix A
  left_jacobian w θ = left_jacobian_by ((𝟙 ⊖ w.cosine) ⊘ w.squared) ((w.angle ⊖ w.sine) ⊘ (w.squared ⊗ w.angle)) θ

  -- k = 1/w² - (1 + cos w)/((2·w)·sin w)
  unfoldable pub left_jacobian_inv : Angle A → Vector A → Matrix A
  left_jacobian_inv w θ = left_jacobian_inv_by (𝟙 ⊘ w.squared ⊖ (𝟙 ⊕ w.cosine) ⊘ (𝟚 ⊗ w.angle ⊗ w.sine)) θ

  -- M: a = (w - sin w)/w³, b = ((w² + 2·cos w) - 2)/((2·w²)·w²)
  unfoldable pub s_nu_coupling : Angle A → Vector A → Matrix A
  s_nu_coupling w θ =
      GalileanSeries.coupling_by o
      ((w.angle ⊖ w.sine) ⊘ (w.angle ⊗ w.angle ⊗ w.angle))
      ((w.squared ⊕ 𝟚 ⊗ w.cosine ⊖ 𝟚) ⊘ (𝟚 ⊗ w.squared ⊗ w.squared))
      θ
