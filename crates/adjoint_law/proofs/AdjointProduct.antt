-- The adjoint of a product is the product of the adjoints, in exact arithmetic: a hundred entries. Assumes nothing.
use mathlib.Core.Path.{◌≡◌, sym, ap, ap₂, ◌∙◌}
use mathlib.Core.List.{[], ◌∷◌}
use Rattle.law.specs.Arithmetic.{Arithmetic}
use Rattle.law.specs.Vector as Vector
use Rattle.law.specs.Vector.{Vector}
use Rattle.law.specs.Matrix as Matrix
use Rattle.law.specs.Matrix.{Matrix}
use Rattle.law.specs.Quaternion as Quaternion
use Rattle.law.specs.Rows as Rows
use Rattle.law.specs.Galilean.{Element, compose, compose_at, row10, by_blocks, adjoint, adjoint_at, opened}
use Rattle.law.specs.Exact.{Exact, exact}
use Rattle.ring.specs.Ring.{Ring}
use Rattle.ring.proofs.Solver.{Expr, var, zer, eval}
use Rattle.law.proofs.Written.{written, vector, quaternion, element, of_element, agrees, solve_rows_by}
use Rattle.law.proofs.Group.{Unit, compose-is, compose-unit}
use Rattle.law.proofs.Adjoint.{adjoint-is}

module _ {A : Type 0} (𝓔 : Exact A) where
  abbrev o : Arithmetic A
  o = exact 𝓔

  abbrev 𝓡 : Ring A
  𝓡 = 𝓔.ring

  -- the third column of blocks differs by (|q|² - 1) (R hat(p) - hat(p) R) R(r), and the last column by -(|q|² - 1) v
  adjoint_at-compose : (a b : Element A) → Unit 𝓔 a
      → opened o (adjoint_at o (Quaternion.mul o a.rotation b.rotation) (compose_at o a.rotation b.rotation a b))
      ≡ Rows.mul o (opened o (adjoint_at o a.rotation a)) (opened o (adjoint_at o b.rotation b))
  unfolding compose_at opened by_blocks adjoint_at row10 Rows.mul Rows.dot Rows.transpose Quaternion.rotate Quaternion.vector Quaternion.rotation_matrix Quaternion.mul Quaternion.norm_squared Matrix.hat Matrix.mul Matrix.row_by Matrix.scale Matrix.sub Vector.zero Vector.add Vector.sub Vector.neg Vector.scale Vector.cross agrees eval
  adjoint_at-compose a b h =
      let m = written in
      let q = quaternion 3 in
      let r = quaternion 14 in
      let R = Quaternion.rotation_matrix m q in
      let block : Vector Expr → Matrix Expr =
      λ p. Matrix.mul m (Matrix.sub m (Matrix.mul m R (Matrix.hat m p)) (Matrix.mul m (Matrix.hat m p) R)) (Quaternion.rotation_matrix m r) in
      let t = block (Vector.sub m (vector 11) (Vector.scale m (vector 18) (m.add (var 10) (var 21)))) in
      let v = block (vector 18) in
      let n = Vector.neg m (vector 18) in
      let k = Vector.zero m in
      solve_rows_by 𝓡 (of_element a (of_element b [])) (Quaternion.norm_squared m q) m.one h
      (row10 m k k t.row0 n.x ∷ row10 m k k t.row1 n.y ∷ row10 m k k t.row2 n.z
      ∷ row10 m k k v.row0 zer ∷ row10 m k k v.row1 zer ∷ row10 m k k v.row2 zer ∷ [])
      (opened m (adjoint_at m (Quaternion.mul m q r) (compose_at m q r (element 0) (element 11))))
      (Rows.mul m (opened m (adjoint_at m q (element 0))) (opened m (adjoint_at m r (element 11))))
      tt

  -- Ad(a b) = Ad(a) Ad(b)
  pub adjoint-compose : (a b : Element A) → Unit 𝓔 a → Unit 𝓔 b
      → opened o (adjoint o (compose o a b)) ≡ Rows.mul o (opened o (adjoint o a)) (opened o (adjoint o b))
  unfolding compose_at
  adjoint-compose a b h k =
      ap (opened o) (adjoint-is 𝓔 (compose o a b) (compose-unit 𝓔 a b h k))
      ∙ ap (λ (c : Element A). opened o (adjoint_at o c.rotation c)) (compose-is 𝓔 a b h k)
      ∙ adjoint_at-compose a b h
      ∙ ap₂ (λ c d. Rows.mul o (opened o c) (opened o d)) (sym (adjoint-is 𝓔 a h)) (sym (adjoint-is 𝓔 b k))
