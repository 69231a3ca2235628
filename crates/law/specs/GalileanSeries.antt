-- SGal(3): exp and log by given matrices, M by given coefficients, and the three where the angle is small, in the words of sgal3.rs. Definitions only.
use Rattle.law.specs.Arithmetic.{Arithmetic}
use Rattle.law.specs.Vector as Vector
use Rattle.law.specs.Vector.{Vector}
use Rattle.law.specs.Matrix as Matrix
use Rattle.law.specs.Matrix.{Matrix}
use Rattle.law.specs.Quaternion.{Quaternion}
use Rattle.law.specs.Series as Series
use Rattle.law.specs.Galilean.{Element, Tangent}

-- the whole numbers that the coefficients of M divide by
pub record Divisors (A : Type 0) : Type 0 where
  pub six : A
  pub one_hundred_twenty : A
  pub twenty_four : A
  pub seven_hundred_twenty : A

module _ {A : Type 0} (o : Arithmetic A) where
  infixl 60 ◌⊖◌
  infixl 70 ◌⊘◌
  open o use {one as 𝟙, sub as ◌⊖◌, div as ◌⊘◌}

  -- ½I + a·hat θ + b·(hat θ)²
  unfoldable pub coupling_by : A → A → Vector A → Matrix A
  coupling_by a b θ =
      let h = Matrix.hat o θ in
      Matrix.add o (Matrix.add o (Matrix.scale o (Matrix.identity o) (Series.half o)) (Matrix.scale o h a)) (Matrix.scale o (Matrix.mul o h h) b)

  -- M, with a = 1/6 - w²/120 and b = 1/24 - w²/720, where w² is the squared angle
  unfoldable pub s_nu_coupling : Divisors A → Vector A → Matrix A
  s_nu_coupling d θ =
      let w² = Vector.norm_squared o θ in
      coupling_by (𝟙 ⊘ d.six ⊖ w² ⊘ d.one_hundred_twenty) (𝟙 ⊘ d.twenty_four ⊖ w² ⊘ d.seven_hundred_twenty) θ

  -- t = J ρ + s (M ν); v = J ν. The rotation is q
  unfoldable pub exp_by : Matrix A → Matrix A → Quaternion A → Tangent A → Element A
  exp_by j m q ξ =
      record {
        translation = Vector.add o (Matrix.apply o j ξ.rho) (Vector.scale o (Matrix.apply o m ξ.nu) ξ.s);
        rotation = q;
        velocity = Matrix.apply o j ξ.nu;
        time = ξ.s;
      }

  unfoldable pub exp : Divisors A → Tangent A → Element A
  exp d ξ = exp_by (Series.left_jacobian o ξ.theta) (s_nu_coupling d ξ.theta) (Series.exp o ξ.theta) ξ

  -- ν = J v; ρ = J (t - s (M ν)), where J is the inverse of exp's
  unfoldable pub log_by : Matrix A → Matrix A → Vector A → Element A → Tangent A
  log_by j m θ a =
      let ν = Matrix.apply o j a.velocity in
      record {
        rho = Matrix.apply o j (Vector.sub o a.translation (Vector.scale o (Matrix.apply o m ν) a.time));
        nu = ν;
        theta = θ;
        s = a.time;
      }

  -- θ is the log of the rotation
  unfoldable pub log_at : Divisors A → Vector A → Element A → Tangent A
  log_at d θ a = log_by (Series.left_jacobian_inv o θ) (s_nu_coupling d θ) θ a
