-- Quaternions and SO(3) in exact arithmetic: the rotation is the matrix's product, and unit quaternions are a group that acts on vectors. Assumes nothing.
use mathlib.Core.Path.{◌≡◌, sym, ap, ap₂, ◌∙◌}
use mathlib.Core.List.{[]}
use Rattle.law.specs.Arithmetic.{Arithmetic}
use Rattle.law.specs.Vector as Vector
use Rattle.law.specs.Vector.{Vector}
use Rattle.law.specs.Matrix as Matrix
use Rattle.law.specs.Matrix.{Matrix}
use Rattle.law.specs.Quaternion as Quaternion
use Rattle.law.specs.Quaternion.{Quaternion}
use Rattle.law.specs.Rotation as Rotation
use Rattle.law.specs.Exact.{Exact, exact}
use Rattle.ring.specs.Ring.{Ring}
use Rattle.ring.proofs.Solver.{eval}
use Rattle.law.proofs.Written.{written, vector, quaternion, matrix, of_vector, of_quaternion, of_matrix, agree, solve_value, solve_vector, solve_quaternion, solve_matrix, solve_vector_by, solve_quaternion_by}

module _ {A : Type 0} (𝓔 : Exact A) where
  abbrev o : Arithmetic A
  o = exact 𝓔

  abbrev 𝓡 : Ring A
  𝓡 = 𝓔.ring

  abbrev pub Unit : Quaternion A → Type 0
  Unit q = Quaternion.norm_squared o q ≡ o.one

  -- matrices
  pub hat-apply : (a b : Vector A) → Matrix.apply o (Matrix.hat o a) b ≡ Vector.cross o a b
  unfolding Matrix.apply Matrix.hat Vector.dot Vector.cross agree eval
  hat-apply a b =
      let m = written in
      solve_vector 𝓡 (of_vector a (of_vector b [])) (Matrix.apply m (Matrix.hat m (vector 0)) (vector 3)) (Vector.cross m (vector 0) (vector 3)) tt

  pub apply-mul : (m n : Matrix A) (p : Vector A) → Matrix.apply o (Matrix.mul o m n) p ≡ Matrix.apply o m (Matrix.apply o n p)
  unfolding Matrix.apply Matrix.mul Matrix.row_by Vector.dot agree eval
  apply-mul m n p =
      let w = written in
      solve_vector 𝓡 (of_matrix m (of_matrix n (of_vector p [])))
      (Matrix.apply w (Matrix.mul w (matrix 0) (matrix 9)) (vector 18)) (Matrix.apply w (matrix 0) (Matrix.apply w (matrix 9) (vector 18))) tt

  -- quaternions: rotate q p = R(q) p + (1 - |q|²) p
  pub rotate-matrix : (q : Quaternion A) (p : Vector A)
      → Quaternion.rotate o q p
      ≡ Vector.add o (Matrix.apply o (Quaternion.rotation_matrix o q) p) (Vector.scale o p (o.sub o.one (Quaternion.norm_squared o q)))
  unfolding Quaternion.rotate Quaternion.vector Quaternion.rotation_matrix Quaternion.norm_squared Matrix.apply Vector.add Vector.scale Vector.cross Vector.dot agree eval
  rotate-matrix q p =
      let m = written in
      solve_vector 𝓡 (of_quaternion q (of_vector p []))
      (Quaternion.rotate m (quaternion 0) (vector 4))
      (Vector.add m (Matrix.apply m (Quaternion.rotation_matrix m (quaternion 0)) (vector 4)) (Vector.scale m (vector 4) (m.sub m.one (Quaternion.norm_squared m (quaternion 0)))))
      tt

  pub rotate-unit : (q : Quaternion A) (p : Vector A) → Unit q → Quaternion.rotate o q p ≡ Matrix.apply o (Quaternion.rotation_matrix o q) p
  unfolding Quaternion.rotate Quaternion.vector Quaternion.rotation_matrix Quaternion.norm_squared Matrix.apply Vector.add Vector.scale Vector.neg Vector.cross Vector.dot agree eval
  rotate-unit q p h =
      let m = written in
      solve_vector_by 𝓡 (of_quaternion q (of_vector p [])) (Quaternion.norm_squared m (quaternion 0)) m.one h
      (Vector.neg m (vector 4)) (Quaternion.rotate m (quaternion 0) (vector 4)) (Matrix.apply m (Quaternion.rotation_matrix m (quaternion 0)) (vector 4)) tt

  pub norm_squared-mul : (q r : Quaternion A)
      → Quaternion.norm_squared o (Quaternion.mul o q r) ≡ o.mul (Quaternion.norm_squared o q) (Quaternion.norm_squared o r)
  unfolding Quaternion.norm_squared Quaternion.mul agree eval
  norm_squared-mul q r =
      let m = written in
      solve_value 𝓡 (of_quaternion q (of_quaternion r []))
      (Quaternion.norm_squared m (Quaternion.mul m (quaternion 0) (quaternion 4)))
      (m.mul (Quaternion.norm_squared m (quaternion 0)) (Quaternion.norm_squared m (quaternion 4)))
      tt

  norm_squared-conjugate : (q : Quaternion A) → Quaternion.norm_squared o (Quaternion.conjugate o q) ≡ Quaternion.norm_squared o q
  unfolding Quaternion.norm_squared Quaternion.conjugate agree eval
  norm_squared-conjugate q =
      let m = written in
      solve_value 𝓡 (of_quaternion q []) (Quaternion.norm_squared m (Quaternion.conjugate m (quaternion 0))) (Quaternion.norm_squared m (quaternion 0)) tt

  -- R(q r) = R(q) R(r)
  pub rotation_matrix-mul : (q r : Quaternion A)
      → Quaternion.rotation_matrix o (Quaternion.mul o q r) ≡ Matrix.mul o (Quaternion.rotation_matrix o q) (Quaternion.rotation_matrix o r)
  unfolding Quaternion.rotation_matrix Quaternion.mul Matrix.mul Matrix.row_by agree eval
  rotation_matrix-mul q r =
      let m = written in
      solve_matrix 𝓡 (of_quaternion q (of_quaternion r []))
      (Quaternion.rotation_matrix m (Quaternion.mul m (quaternion 0) (quaternion 4)))
      (Matrix.mul m (Quaternion.rotation_matrix m (quaternion 0)) (Quaternion.rotation_matrix m (quaternion 4)))
      tt

  pub rotation_matrix-conjugate : (q : Quaternion A) → Quaternion.rotation_matrix o (Quaternion.conjugate o q) ≡ Matrix.transpose o (Quaternion.rotation_matrix o q)
  unfolding Quaternion.rotation_matrix Quaternion.conjugate Matrix.transpose agree eval
  rotation_matrix-conjugate q =
      let m = written in
      solve_matrix 𝓡 (of_quaternion q [])
      (Quaternion.rotation_matrix m (Quaternion.conjugate m (quaternion 0)))
      (Matrix.transpose m (Quaternion.rotation_matrix m (quaternion 0)))
      tt

  pub mul_assoc : (q r s : Quaternion A) → Quaternion.mul o (Quaternion.mul o q r) s ≡ Quaternion.mul o q (Quaternion.mul o r s)
  unfolding Quaternion.mul agree eval
  mul_assoc q r s =
      let m = written in
      solve_quaternion 𝓡 (of_quaternion q (of_quaternion r (of_quaternion s [])))
      (Quaternion.mul m (Quaternion.mul m (quaternion 0) (quaternion 4)) (quaternion 8))
      (Quaternion.mul m (quaternion 0) (Quaternion.mul m (quaternion 4) (quaternion 8)))
      tt

  identity-mul : (q : Quaternion A) → Quaternion.mul o (Quaternion.identity o) q ≡ q
  unfolding Quaternion.mul Quaternion.identity agree eval
  identity-mul q = let m = written in solve_quaternion 𝓡 (of_quaternion q []) (Quaternion.mul m (Quaternion.identity m) (quaternion 0)) (quaternion 0) tt

  mul-identity : (q : Quaternion A) → Quaternion.mul o q (Quaternion.identity o) ≡ q
  unfolding Quaternion.mul Quaternion.identity agree eval
  mul-identity q = let m = written in solve_quaternion 𝓡 (of_quaternion q []) (Quaternion.mul m (quaternion 0) (Quaternion.identity m)) (quaternion 0) tt

  mul-conjugate : (q : Quaternion A) → Unit q → Quaternion.mul o q (Quaternion.conjugate o q) ≡ Quaternion.identity o
  unfolding Quaternion.mul Quaternion.conjugate Quaternion.identity Quaternion.norm_squared agree eval
  mul-conjugate q h =
      let m = written in
      let r = quaternion 0 in
      solve_quaternion_by 𝓡 (of_quaternion q []) (Quaternion.norm_squared m r) m.one h
      (Quaternion.identity m) (Quaternion.mul m r (Quaternion.conjugate m r)) (Quaternion.identity m) tt

  conjugate-mul : (q : Quaternion A) → Unit q → Quaternion.mul o (Quaternion.conjugate o q) q ≡ Quaternion.identity o
  unfolding Quaternion.mul Quaternion.conjugate Quaternion.identity Quaternion.norm_squared agree eval
  conjugate-mul q h =
      let m = written in
      let r = quaternion 0 in
      solve_quaternion_by 𝓡 (of_quaternion q []) (Quaternion.norm_squared m r) m.one h
      (Quaternion.identity m) (Quaternion.mul m (Quaternion.conjugate m r) r) (Quaternion.identity m) tt

  pub rotate-identity : (p : Vector A) → Quaternion.rotate o (Quaternion.identity o) p ≡ p
  unfolding Quaternion.rotate Quaternion.vector Quaternion.identity Vector.add Vector.scale Vector.cross agree eval
  rotate-identity p = let m = written in solve_vector 𝓡 (of_vector p []) (Quaternion.rotate m (Quaternion.identity m) (vector 0)) (vector 0) tt

  -- unit quaternions: one is its own normalised form
  pub normalize-unit : (q : Quaternion A) → Unit q → Quaternion.normalize o q ≡ q
  unfolding Quaternion.normalize Quaternion.norm Quaternion.divide
  normalize-unit q h =
      let n : o.root (Quaternion.norm_squared o q) ≡ o.one = ap o.root h ∙ 𝓔.root-one in
      let d : (a : A) → o.div a (o.root (Quaternion.norm_squared o q)) ≡ a = λ a. ap (o.div a) n ∙ 𝓔.div-one a in
      λ i. record { w = d q.w i; x = d q.x i; y = d q.y i; z = d q.z i }

  pub identity-unit : Unit (Quaternion.identity o)
  unfolding Quaternion.norm_squared Quaternion.identity agree eval
  identity-unit = let m = written in solve_value 𝓡 [] (Quaternion.norm_squared m (Quaternion.identity m)) m.one tt

  pub mul-unit : (q r : Quaternion A) → Unit q → Unit r → Unit (Quaternion.mul o q r)
  mul-unit q r h k = norm_squared-mul q r ∙ ap₂ o.mul h k ∙ 𝓡.mul-one o.one

  pub conjugate-unit : (q : Quaternion A) → Unit q → Unit (Quaternion.conjugate o q)
  conjugate-unit q h = norm_squared-conjugate q ∙ h

  -- to rotate by a product is to rotate twice
  pub rotate-mul : (q r : Quaternion A) (p : Vector A) → Unit q → Unit r
      → Quaternion.rotate o (Quaternion.mul o q r) p ≡ Quaternion.rotate o q (Quaternion.rotate o r p)
  rotate-mul q r p h k =
      rotate-unit (Quaternion.mul o q r) p (mul-unit q r h k)
      ∙ ap (λ m. Matrix.apply o m p) (rotation_matrix-mul q r)
      ∙ apply-mul (Quaternion.rotation_matrix o q) (Quaternion.rotation_matrix o r) p
      ∙ ap (Matrix.apply o (Quaternion.rotation_matrix o q)) (sym (rotate-unit r p k))
      ∙ sym (rotate-unit q (Quaternion.rotate o r p) h)

  -- SO(3): at unit quaternions normalising does nothing
  unit-is : (q : Quaternion A) → Unit q → Rotation.unit_quaternion o q ≡ q
  unfolding Rotation.unit_quaternion
  unit-is q h = normalize-unit q h

  compose-is : (q r : Quaternion A) → Unit q → Unit r → Rotation.compose o q r ≡ Quaternion.mul o q r
  unfolding Rotation.compose
  compose-is q r h k = ap₂ (Quaternion.mul o) (unit-is q h) (unit-is r k)

  inverse-is : (q : Quaternion A) → Unit q → Rotation.inverse o q ≡ Quaternion.conjugate o q
  unfolding Rotation.inverse
  inverse-is q h = ap (Quaternion.conjugate o) (unit-is q h)

  act-is : (q : Quaternion A) (p : Vector A) → Unit q → Rotation.act o q p ≡ Quaternion.rotate o q p
  unfolding Rotation.act
  act-is q p h = ap (λ r. Quaternion.rotate o r p) (unit-is q h)

  pub compose-unit : (q r : Quaternion A) → Unit q → Unit r → Unit (Rotation.compose o q r)
  compose-unit q r h k = ap (Quaternion.norm_squared o) (compose-is q r h k) ∙ mul-unit q r h k

  pub inverse-unit : (q : Quaternion A) → Unit q → Unit (Rotation.inverse o q)
  inverse-unit q h = ap (Quaternion.norm_squared o) (inverse-is q h) ∙ conjugate-unit q h

  pub compose-assoc : (q r s : Quaternion A) → Unit q → Unit r → Unit s
      → Rotation.compose o (Rotation.compose o q r) s ≡ Rotation.compose o q (Rotation.compose o r s)
  compose-assoc q r s h k l =
      compose-is (Rotation.compose o q r) s (compose-unit q r h k) l
      ∙ ap (λ t. Quaternion.mul o t s) (compose-is q r h k)
      ∙ mul_assoc q r s
      ∙ ap (Quaternion.mul o q) (sym (compose-is r s k l))
      ∙ sym (compose-is q (Rotation.compose o r s) h (compose-unit r s k l))

  pub identity-compose : (q : Quaternion A) → Unit q → Rotation.compose o (Quaternion.identity o) q ≡ q
  identity-compose q h = compose-is (Quaternion.identity o) q identity-unit h ∙ identity-mul q

  pub compose-identity : (q : Quaternion A) → Unit q → Rotation.compose o q (Quaternion.identity o) ≡ q
  compose-identity q h = compose-is q (Quaternion.identity o) h identity-unit ∙ mul-identity q

  pub compose-inverse : (q : Quaternion A) → Unit q → Rotation.compose o q (Rotation.inverse o q) ≡ Quaternion.identity o
  compose-inverse q h = compose-is q (Rotation.inverse o q) h (inverse-unit q h) ∙ ap (Quaternion.mul o q) (inverse-is q h) ∙ mul-conjugate q h

  pub inverse-compose : (q : Quaternion A) → Unit q → Rotation.compose o (Rotation.inverse o q) q ≡ Quaternion.identity o
  inverse-compose q h =
      compose-is (Rotation.inverse o q) q (inverse-unit q h) h ∙ ap (λ r. Quaternion.mul o r q) (inverse-is q h) ∙ conjugate-mul q h

  pub act-identity : (p : Vector A) → Rotation.act o (Quaternion.identity o) p ≡ p
  act-identity p = act-is (Quaternion.identity o) p identity-unit ∙ rotate-identity p

  pub act-compose : (q r : Quaternion A) (p : Vector A) → Unit q → Unit r
      → Rotation.act o (Rotation.compose o q r) p ≡ Rotation.act o q (Rotation.act o r p)
  act-compose q r p h k =
      act-is (Rotation.compose o q r) p (compose-unit q r h k)
      ∙ ap (λ t. Quaternion.rotate o t p) (compose-is q r h k)
      ∙ rotate-mul q r p h k
      ∙ ap (Quaternion.rotate o q) (sym (act-is r p k))
      ∙ sym (act-is q (Rotation.act o r p) h)
