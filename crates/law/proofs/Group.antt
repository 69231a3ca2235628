-- SGal(3) is a group in exact arithmetic, at elements whose rotation is a unit quaternion, and its matrix is a homomorphism. Assumes nothing.
use mathlib.Core.Path.{◌≡◌, sym, ap, ap₂, ◌∙◌}
use mathlib.Core.List.{[], ◌∷◌}
use Rattle.law.specs.Arithmetic.{Arithmetic}
use Rattle.law.specs.Vector as Vector
use Rattle.law.specs.Vector.{Vector}
use Rattle.law.specs.Matrix as Matrix
use Rattle.law.specs.Quaternion as Quaternion
use Rattle.law.specs.Quaternion.{Quaternion}
use Rattle.law.specs.Rotation as Rotation
use Rattle.law.specs.Rows as Rows
use Rattle.law.specs.Galilean as Galilean
use Rattle.law.specs.Galilean.{Element, identity, compose, compose_at, inverse, inverse_at, matrix, matrix_at}
use Rattle.law.specs.Exact.{Exact, exact}
use Rattle.ring.specs.Ring.{Ring}
use Rattle.ring.proofs.Solver.{Expr, var, zer, eval}
use Rattle.law.proofs.Written.{written, vector, quaternion, element, of_element, agree, agrees, solve_element, solve_element_by, solve_rows_by}
use Rattle.law.proofs.Rotation as SO3

module _ {A : Type 0} (𝓔 : Exact A) where
  abbrev o : Arithmetic A
  o = exact 𝓔

  abbrev 𝓡 : Ring A
  𝓡 = 𝓔.ring

  abbrev mul : Quaternion A → Quaternion A → Quaternion A
  mul q r = Quaternion.mul o q r

  abbrev conjugate : Quaternion A → Quaternion A
  conjugate q = Quaternion.conjugate o q

  abbrev pub Unit : Element A → Type 0
  Unit a = SO3.Unit 𝓔 a.rotation

  -- where |q|² = 1 normalising does nothing
  pub unit-is : (a : Element A) → Unit a → Rotation.unit_quaternion o (Galilean.rotation_impl o a) ≡ a.rotation
  unfolding Rotation.unit_quaternion Galilean.rotation_impl
  unit-is a h = simp (SO3.normalize-unit 𝓔 a.rotation h)

  pub compose-is : (a b : Element A) → Unit a → Unit b → compose o a b ≡ compose_at o a.rotation b.rotation a b
  unfolding compose
  compose-is a b h k = ap₂ (λ q r. compose_at o q r a b) (unit-is a h) (unit-is b k)

  inverse-is : (a : Element A) → Unit a → inverse o a ≡ inverse_at o (conjugate a.rotation) (conjugate a.rotation) a
  unfolding inverse Rotation.inverse Rotation.unit_quaternion
  inverse-is a h = simp (unit-is a h, SO3.normalize-unit 𝓔 (conjugate a.rotation) (SO3.conjugate-unit 𝓔 a.rotation h))

  pub matrix-is : (a : Element A) → Unit a → matrix o a ≡ matrix_at o a.rotation a
  unfolding matrix
  matrix-is a h = ap (λ q. matrix_at o q a) (unit-is a h)

  compose-rotation : (a b : Element A) → Unit a → Unit b → (compose o a b).rotation ≡ mul a.rotation b.rotation
  unfolding compose_at
  compose-rotation a b h k = ap (λ (c : Element A). c.rotation) (compose-is a b h k)

  inverse-rotation : (a : Element A) → Unit a → (inverse o a).rotation ≡ conjugate a.rotation
  unfolding inverse_at
  inverse-rotation a h = ap (λ (c : Element A). c.rotation) (inverse-is a h)

  pub identity-unit : Unit (identity o)
  unfolding identity
  identity-unit = SO3.identity-unit 𝓔

  pub compose-unit : (a b : Element A) → Unit a → Unit b → Unit (compose o a b)
  compose-unit a b h k = ap (Quaternion.norm_squared o) (compose-rotation a b h k) ∙ SO3.mul-unit 𝓔 a.rotation b.rotation h k

  pub inverse-unit : (a : Element A) → Unit a → Unit (inverse o a)
  inverse-unit a h = ap (Quaternion.norm_squared o) (inverse-rotation a h) ∙ SO3.conjugate-unit 𝓔 a.rotation h

  -- the matrix of a product
  matrix_at-compose : (a b : Element A) → Unit a
      → matrix_at o (mul a.rotation b.rotation) (compose_at o a.rotation b.rotation a b)
      ≡ Rows.mul o (matrix_at o a.rotation a) (matrix_at o b.rotation b)
  unfolding compose_at matrix_at Galilean.row5 Rows.mul Rows.dot Rows.transpose Quaternion.rotate Quaternion.vector Quaternion.rotation_matrix Quaternion.mul Quaternion.norm_squared Vector.zero Vector.add Vector.neg Vector.scale Vector.cross agrees eval
  matrix_at-compose a b h =
      let m = written in
      let q = quaternion 3 in
      let r = quaternion 14 in
      let v = Vector.neg m (vector 18) in
      let t = Vector.neg m (vector 11) in
      solve_rows_by 𝓡 (of_element a (of_element b [])) (Quaternion.norm_squared m q) m.one h
      ((zer ∷ zer ∷ zer ∷ v.x ∷ t.x ∷ []) ∷ (zer ∷ zer ∷ zer ∷ v.y ∷ t.y ∷ []) ∷ (zer ∷ zer ∷ zer ∷ v.z ∷ t.z ∷ []) ∷ [])
      (matrix_at m (Quaternion.mul m q r) (compose_at m q r (element 0) (element 11)))
      (Rows.mul m (matrix_at m q (element 0)) (matrix_at m r (element 11)))
      tt

  pub matrix-compose : (a b : Element A) → Unit a → Unit b → matrix o (compose o a b) ≡ Rows.mul o (matrix o a) (matrix o b)
  unfolding compose_at
  matrix-compose a b h k =
      matrix-is (compose o a b) (compose-unit a b h k)
      ∙ ap (λ (c : Element A). matrix_at o c.rotation c) (compose-is a b h k)
      ∙ matrix_at-compose a b h
      ∙ ap₂ (Rows.mul o) (sym (matrix-is a h)) (sym (matrix-is b k))

  -- the identity
  compose_at-left : (a : Element A) → compose_at o (identity o).rotation a.rotation (identity o) a ≡ a
  unfolding compose_at identity Quaternion.identity Quaternion.mul Quaternion.rotate Quaternion.vector Vector.zero Vector.add Vector.scale Vector.cross agree eval
  compose_at-left a =
      let m = written in
      solve_element 𝓡 (of_element a []) (compose_at m (identity m).rotation (quaternion 3) (identity m) (element 0)) (element 0) tt

  compose_at-right : (a : Element A) → compose_at o a.rotation (identity o).rotation a (identity o) ≡ a
  unfolding compose_at identity Quaternion.identity Quaternion.mul Quaternion.rotate Quaternion.vector Vector.zero Vector.add Vector.scale Vector.cross agree eval
  compose_at-right a =
      let m = written in
      solve_element 𝓡 (of_element a []) (compose_at m (quaternion 3) (identity m).rotation (element 0) (identity m)) (element 0) tt

  pub identity-compose : (a : Element A) → Unit a → compose o (identity o) a ≡ a
  identity-compose a h = compose-is (identity o) a identity-unit h ∙ compose_at-left a

  pub compose-identity : (a : Element A) → Unit a → compose o a (identity o) ≡ a
  compose-identity a h = compose-is a (identity o) h identity-unit ∙ compose_at-right a

  -- the inverse. With n = |q|² the two sides differ by (n - 1) ((R + R') p - 2 n p), R' the matrix of the conjugate
  after-inverse : (a : Element A) → Unit a
      → compose_at o a.rotation (conjugate a.rotation) a (inverse_at o (conjugate a.rotation) (conjugate a.rotation) a) ≡ identity o
  unfolding compose_at inverse_at identity Quaternion.identity Quaternion.conjugate Quaternion.mul Quaternion.rotate Quaternion.vector Quaternion.rotation_matrix Quaternion.norm_squared Matrix.apply Vector.zero Vector.add Vector.sub Vector.neg Vector.scale Vector.cross Vector.dot agree eval
  after-inverse a h =
      let m = written in
      let q = quaternion 3 in
      let r = Quaternion.conjugate m q in
      let off : Vector Expr → Vector Expr =
      λ p.
      Vector.sub m (Vector.add m (Matrix.apply m (Quaternion.rotation_matrix m q) p) (Matrix.apply m (Quaternion.rotation_matrix m r) p))
      (Vector.scale m p (m.mul m.two (Quaternion.norm_squared m q))) in
      let c : Element Expr =
      record {
        translation = off (Vector.sub m (vector 0) (Vector.scale m (vector 7) (var 10)));
        rotation = Quaternion.identity m;
        velocity = off (vector 7);
        time = zer;
      } in
      solve_element_by 𝓡 (of_element a []) (Quaternion.norm_squared m q) m.one h c
      (compose_at m q r (element 0) (inverse_at m r r (element 0))) (identity m) tt

  before-inverse : (a : Element A) → Unit a
      → compose_at o (conjugate a.rotation) a.rotation (inverse_at o (conjugate a.rotation) (conjugate a.rotation) a) a ≡ identity o
  unfolding compose_at inverse_at identity Quaternion.identity Quaternion.conjugate Quaternion.mul Quaternion.rotate Quaternion.vector Quaternion.norm_squared Vector.zero Vector.add Vector.sub Vector.neg Vector.scale Vector.cross agree eval
  before-inverse a h =
      let m = written in
      let q = quaternion 3 in
      let r = Quaternion.conjugate m q in
      solve_element_by 𝓡 (of_element a []) (Quaternion.norm_squared m q) m.one h (identity m)
      (compose_at m r q (inverse_at m r r (element 0)) (element 0)) (identity m) tt

  pub compose-inverse : (a : Element A) → Unit a → compose o a (inverse o a) ≡ identity o
  compose-inverse a h =
      compose-is a (inverse o a) h (inverse-unit a h)
      ∙ ap₂ (λ (q : Quaternion A) (b : Element A). compose_at o a.rotation q a b) (inverse-rotation a h) (inverse-is a h)
      ∙ after-inverse a h

  pub inverse-compose : (a : Element A) → Unit a → compose o (inverse o a) a ≡ identity o
  inverse-compose a h =
      compose-is (inverse o a) a (inverse-unit a h) h
      ∙ ap₂ (λ (q : Quaternion A) (b : Element A). compose_at o q a.rotation b a) (inverse-rotation a h) (inverse-is a h)
      ∙ before-inverse a h

  -- associativity. The two sides differ as rotate (q r) p and rotate q (rotate r p) do, by (|q|² - 1) (R(r) p - |r|² p) + (|r|² - 1) (R(q) p - |q|² p)
  compose_at-assoc : (a b c : Element A) → Unit a → Unit b
      → compose_at o (mul a.rotation b.rotation) c.rotation (compose_at o a.rotation b.rotation a b) c
      ≡ compose_at o a.rotation (mul b.rotation c.rotation) a (compose_at o b.rotation c.rotation b c)
  unfolding compose_at Quaternion.mul Quaternion.rotate Quaternion.vector Quaternion.rotation_matrix Quaternion.norm_squared Matrix.apply Vector.add Vector.sub Vector.scale Vector.cross Vector.dot agree eval
  compose_at-assoc a b c h k =
      let m = written in
      let q = quaternion 3 in
      let r = quaternion 14 in
      let s = quaternion 25 in
      let off : Quaternion Expr → Vector Expr → Vector Expr =
      λ g p. Vector.sub m (Matrix.apply m (Quaternion.rotation_matrix m g) p) (Vector.scale m p (Quaternion.norm_squared m g)) in
      let offs : Quaternion Expr → Element Expr =
      λ g. record { translation = off g (vector 22); rotation = record { w = zer; x = zer; y = zer; z = zer }; velocity = off g (vector 29); time = zer } in
      let left = compose_at m (Quaternion.mul m q r) s (compose_at m q r (element 0) (element 11)) (element 22) in
      let right = compose_at m q (Quaternion.mul m r s) (element 0) (compose_at m r s (element 11) (element 22)) in
      let less = m.sub (Quaternion.norm_squared m r) m.one in
      let middle : Element Expr =
      record {
        translation = Vector.add m right.translation (Vector.scale m (off q (vector 22)) less);
        rotation = right.rotation;
        velocity = Vector.add m right.velocity (Vector.scale m (off q (vector 29)) less);
        time = right.time;
      } in
      let xs = of_element a (of_element b (of_element c [])) in
      solve_element_by 𝓡 xs (Quaternion.norm_squared m q) m.one h (offs r) left middle tt
      ∙ solve_element_by 𝓡 xs (Quaternion.norm_squared m r) m.one k (offs q) middle right tt

  pub compose-assoc : (a b c : Element A) → Unit a → Unit b → Unit c → compose o (compose o a b) c ≡ compose o a (compose o b c)
  compose-assoc a b c h k l =
      compose-is (compose o a b) c (compose-unit a b h k) l
      ∙ ap₂ (λ (q : Quaternion A) (d : Element A). compose_at o q c.rotation d c) (compose-rotation a b h k) (compose-is a b h k)
      ∙ compose_at-assoc a b c h k
      ∙ ap₂ (λ (q : Quaternion A) (d : Element A). compose_at o a.rotation q a d) (sym (compose-rotation b c k l)) (sym (compose-is b c k l))
      ∙ sym (compose-is a (compose o b c) h (compose-unit b c k l))

  -- a⁻¹ b takes a to b
  pub between : (a b : Element A) → Unit a → Unit b → compose o a (compose o (inverse o a) b) ≡ b
  between a b h k =
      sym (compose-assoc a (inverse o a) b h (inverse-unit a h) k) ∙ ap (λ c. compose o c b) (compose-inverse a h) ∙ identity-compose b k
