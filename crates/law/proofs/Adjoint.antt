-- The adjoint is conjugation, and the bracket is the commutator, of the 5 by 5 matrices in exact arithmetic. Assumes nothing.
use mathlib.Core.Path.{◌≡◌, sym, ap, ap₂, ◌∙◌}
use mathlib.Core.List.{[], ◌∷◌}
use Rattle.law.specs.Arithmetic.{Arithmetic}
use Rattle.law.specs.Vector as Vector
use Rattle.law.specs.Matrix as Matrix
use Rattle.law.specs.Quaternion as Quaternion
use Rattle.law.specs.Rows as Rows
use Rattle.law.specs.Galilean as Galilean
use Rattle.law.specs.Galilean.{Element, Tangent, matrix, matrix_at, hat5, adjoint, adjoint_at, opened, small_adj, lie_bracket, apply_tangent}
use Rattle.law.specs.Exact.{Exact, exact}
use Rattle.ring.specs.Ring.{Ring}
use Rattle.ring.proofs.Solver.{eval}
use Rattle.law.proofs.Written.{written, vector, quaternion, element, tangent, of_element, of_tangent, agrees, solve_rows, solve_rows_by}
use Rattle.law.proofs.Group.{Unit, unit-is, matrix-is}

module _ {A : Type 0} (𝓔 : Exact A) where
  abbrev o : Arithmetic A
  o = exact 𝓔

  abbrev 𝓡 : Ring A
  𝓡 = 𝓔.ring

  pub adjoint-is : (a : Element A) → Unit 𝓔 a → adjoint o a ≡ adjoint_at o a.rotation a
  unfolding adjoint
  adjoint-is a h = ap (λ q. adjoint_at o q a) (unit-is 𝓔 a h)

  -- the upper left blocks differ by (|q|² - 1) R hat(theta)
  adjoint_at-conjugation : (a : Element A) (ξ : Tangent A) → Unit 𝓔 a
      → Rows.mul o (hat5 o (apply_tangent o (opened o (adjoint_at o a.rotation a)) ξ)) (matrix_at o a.rotation a)
      ≡ Rows.mul o (matrix_at o a.rotation a) (hat5 o ξ)
  unfolding hat5 apply_tangent opened Galilean.by_blocks adjoint_at matrix_at Galilean.row5 Galilean.row10 Galilean.coeffs Galilean.tangent Rows.mul Rows.apply Rows.dot Rows.transpose Quaternion.rotation_matrix Quaternion.norm_squared Matrix.hat Matrix.mul Matrix.row_by Matrix.scale Matrix.sub Vector.scale Vector.sub Vector.zero agrees eval
  adjoint_at-conjugation a ξ h =
      let m = written in
      let q = quaternion 3 in
      let c = Matrix.mul m (Quaternion.rotation_matrix m q) (Matrix.hat m (vector 17)) in
      solve_rows_by 𝓡 (of_element a (of_tangent ξ [])) (Quaternion.norm_squared m q) m.one h
      ((c.row0.x ∷ c.row0.y ∷ c.row0.z ∷ []) ∷ (c.row1.x ∷ c.row1.y ∷ c.row1.z ∷ []) ∷ (c.row2.x ∷ c.row2.y ∷ c.row2.z ∷ []) ∷ [])
      (Rows.mul m (hat5 m (apply_tangent m (opened m (adjoint_at m q (element 0))) (tangent 11))) (matrix_at m q (element 0)))
      (Rows.mul m (matrix_at m q (element 0)) (hat5 m (tangent 11)))
      tt

  -- hat5 (Ad(a) ξ) M(a) = M(a) hat5 ξ
  pub adjoint-conjugation : (a : Element A) (ξ : Tangent A) → Unit 𝓔 a
      → Rows.mul o (hat5 o (apply_tangent o (opened o (adjoint o a)) ξ)) (matrix o a) ≡ Rows.mul o (matrix o a) (hat5 o ξ)
  adjoint-conjugation a ξ h =
      ap₂ (λ d m. Rows.mul o (hat5 o (apply_tangent o (opened o d) ξ)) m) (adjoint-is a h) (matrix-is 𝓔 a h)
      ∙ adjoint_at-conjugation a ξ h
      ∙ ap (λ m. Rows.mul o m (hat5 o ξ)) (sym (matrix-is 𝓔 a h))

  -- hat5 [ξ, η] = hat5 ξ hat5 η - hat5 η hat5 ξ
  pub bracket-commutator : (ξ η : Tangent A)
      → hat5 o (lie_bracket o ξ η) ≡ Rows.sub o (Rows.mul o (hat5 o ξ) (hat5 o η)) (Rows.mul o (hat5 o η) (hat5 o ξ))
  unfolding lie_bracket hat5 Galilean.by_blocks small_adj apply_tangent Galilean.row5 Galilean.row10 Galilean.coeffs Galilean.tangent Rows.sub Rows.mul Rows.apply Rows.dot Rows.transpose Matrix.hat Matrix.scale Matrix.identity Vector.scale Vector.zero agrees eval
  bracket-commutator ξ η =
      let m = written in
      solve_rows 𝓡 (of_tangent ξ (of_tangent η []))
      (hat5 m (lie_bracket m (tangent 0) (tangent 10)))
      (Rows.sub m (Rows.mul m (hat5 m (tangent 0)) (hat5 m (tangent 10))) (Rows.mul m (hat5 m (tangent 10)) (hat5 m (tangent 0))))
      tt
