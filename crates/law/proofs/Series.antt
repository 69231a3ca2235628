-- The series of the left Jacobian and of its inverse, in exact arithmetic: their product is the identity but for the second-order term. Assumes nothing.
use mathlib.Core.Path.{◌≡◌}
use mathlib.Core.List.{[], ◌∷◌}
use Rattle.law.specs.Arithmetic.{Arithmetic}
use Rattle.law.specs.Vector as Vector
use Rattle.law.specs.Vector.{Vector}
use Rattle.law.specs.Matrix as Matrix
use Rattle.law.specs.Series as Series
use Rattle.law.specs.Exact.{Exact, exact}
use Rattle.ring.proofs.Solver.{var, eval}
use Rattle.law.proofs.Written.{written, vector, of_vector, agree, solve_matrix}

module _ {A : Type 0} (𝓔 : Exact A) where
  abbrev o : Arithmetic A
  o = exact 𝓔

  -- (I + k·hat θ) (I - k·hat θ) = I - k²·(hat θ)²
  pub plus_hat-minus_hat : (k : A) (θ : Vector A)
      → Matrix.mul o (Series.plus_hat o k θ) (Series.minus_hat o k θ)
      ≡ Matrix.sub o (Matrix.identity o) (Matrix.scale o (Matrix.mul o (Matrix.hat o θ) (Matrix.hat o θ)) (o.mul k k))
  unfolding Series.plus_hat Series.minus_hat Matrix.mul Matrix.row_by Matrix.add Matrix.sub Matrix.scale Matrix.identity Matrix.hat Vector.add Vector.sub Vector.scale agree eval
  plus_hat-minus_hat k θ =
      let m = written in
      solve_matrix 𝓔.ring (of_vector θ (k ∷ []))
      (Matrix.mul m (Series.plus_hat m (var 3) (vector 0)) (Series.minus_hat m (var 3) (vector 0)))
      (Matrix.sub m (Matrix.identity m) (Matrix.scale m (Matrix.mul m (Matrix.hat m (vector 0)) (Matrix.hat m (vector 0))) (m.mul (var 3) (var 3))))
      tt

  -- and in the other order
  pub minus_hat-plus_hat : (k : A) (θ : Vector A)
      → Matrix.mul o (Series.minus_hat o k θ) (Series.plus_hat o k θ)
      ≡ Matrix.sub o (Matrix.identity o) (Matrix.scale o (Matrix.mul o (Matrix.hat o θ) (Matrix.hat o θ)) (o.mul k k))
  unfolding Series.plus_hat Series.minus_hat Matrix.mul Matrix.row_by Matrix.add Matrix.sub Matrix.scale Matrix.identity Matrix.hat Vector.add Vector.sub Vector.scale agree eval
  minus_hat-plus_hat k θ =
      let m = written in
      solve_matrix 𝓔.ring (of_vector θ (k ∷ []))
      (Matrix.mul m (Series.minus_hat m (var 3) (vector 0)) (Series.plus_hat m (var 3) (vector 0)))
      (Matrix.sub m (Matrix.identity m) (Matrix.scale m (Matrix.mul m (Matrix.hat m (vector 0)) (Matrix.hat m (vector 0))) (m.mul (var 3) (var 3))))
      tt

  -- Jl(θ) Jl⁻¹(θ) = I - ½²·(hat θ)², whatever ½ is
  pub left_jacobian-inverse : (θ : Vector A)
      → Matrix.mul o (Series.left_jacobian o θ) (Series.left_jacobian_inv o θ)
      ≡ Matrix.sub o (Matrix.identity o) (Matrix.scale o (Matrix.mul o (Matrix.hat o θ) (Matrix.hat o θ)) (o.mul (Series.half o) (Series.half o)))
  unfolding Series.left_jacobian Series.left_jacobian_inv
  left_jacobian-inverse θ = plus_hat-minus_hat (Series.half o) θ
