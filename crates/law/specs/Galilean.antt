-- SGal(3): rotation R, translation t, velocity v and time s, in the words of sgal3.rs. Definitions only.
-- A formula that normalises is a body over the normalised quaternion (its name ends in _at), and one line above it that says how often.
use Rattle.std.specs.Prelude.{List, [], ◌∷◌, get_or}
use Rattle.law.specs.Arithmetic.{Arithmetic}
use Rattle.law.specs.Vector as Vector
use Rattle.law.specs.Vector.{Vector}
use Rattle.law.specs.Matrix as Matrix
use Rattle.law.specs.Matrix.{Matrix}
use Rattle.law.specs.Quaternion as Quaternion
use Rattle.law.specs.Quaternion.{Quaternion}
use Rattle.law.specs.Rotation as Rotation
use Rattle.law.specs.Rows as Rows

pub record Element (A : Type 0) : Type 0 where
  pub translation : Vector A
  pub rotation : Quaternion A
  pub velocity : Vector A
  pub time : A

-- a point with a time of its own
pub record Event (A : Type 0) : Type 0 where
  pub point : Vector A
  pub time : A

pub record Tangent (A : Type 0) : Type 0 where
  pub rho : Vector A
  pub nu : Vector A
  pub theta : Vector A
  pub s : A

-- an adjoint by its blocks, 39 numbers: the rotation, and each other block under the row and the column of blocks, of rho, nu, theta and s, where it stands
pub record Adjoint (A : Type 0) : Type 0 where
  pub rotation : Matrix A
  pub rho_nu : Matrix A
  pub rho_theta : Matrix A
  pub nu_theta : Matrix A
  pub rho_s : Vector A

module _ {A : Type 0} (o : Arithmetic A) where
  infixl 60 ◌⊕◌
  open o use {zero as 𝟘, one as 𝟙, two as 𝟚, add as ◌⊕◌, neg as ⊝}

  -- of vectors
  infixl 60 ◌⊕ᵥ◌ ◌⊖ᵥ◌
  infixl 70 ◌·◌
  abbrev ◌⊕ᵥ◌ : Vector A → Vector A → Vector A
  a ⊕ᵥ b = Vector.add o a b

  abbrev ◌⊖ᵥ◌ : Vector A → Vector A → Vector A
  a ⊖ᵥ b = Vector.sub o a b

  abbrev ◌·◌ : Vector A → A → Vector A
  a · k = Vector.scale o a k

  abbrev rotate : Quaternion A → Vector A → Vector A
  rotate q p = Quaternion.rotate o q p

  -- normalised once; each call of SO(3) on it normalises once more
  unfoldable pub rotation_impl : Element A → Quaternion A
  rotation_impl a = Quaternion.normalize o a.rotation

  unfoldable pub identity : Element A
  identity = record { translation = Vector.zero o; rotation = Quaternion.identity o; velocity = Vector.zero o; time = 𝟘 }

  -- t = (R1 t2 + t1) + v1 s2; v = R1 v2 + v1; s = s1 + s2
  unfoldable pub compose_at : Quaternion A → Quaternion A → Element A → Element A → Element A
  compose_at q r a b =
      record {
        translation = (rotate q b.translation ⊕ᵥ a.translation) ⊕ᵥ a.velocity · b.time;
        rotation = Quaternion.mul o q r;
        velocity = rotate q b.velocity ⊕ᵥ a.velocity;
        time = a.time ⊕ b.time;
      }

  unfoldable pub compose : Element A → Element A → Element A
  compose a b = compose_at (Rotation.unit_quaternion o (rotation_impl a)) (Rotation.unit_quaternion o (rotation_impl b)) a b

  -- t = -(R⁻¹ (t - s v)); v = -(R⁻¹ v); s = -s. The rotation r is stored, and q, its normalised form, rotates
  unfoldable pub inverse_at : Quaternion A → Quaternion A → Element A → Element A
  inverse_at q r a =
      record {
        translation = Vector.neg o (rotate q (a.translation ⊖ᵥ a.velocity · a.time));
        rotation = r;
        velocity = Vector.neg o (rotate q a.velocity);
        time = ⊝ a.time;
      }

  unfoldable pub inverse : Element A → Element A
  inverse a =
      let r = Rotation.inverse o (rotation_impl a) in
      inverse_at (Rotation.unit_quaternion o r) r a

  -- (R p + t) + s v: the point is taken at the element's own time
  unfoldable pub act_at : Quaternion A → Element A → Vector A → Vector A
  act_at q a p = (rotate q p ⊕ᵥ a.translation) ⊕ᵥ a.velocity · a.time

  unfoldable pub act : Element A → Vector A → Vector A
  act a p = act_at (Rotation.unit_quaternion o (rotation_impl a)) a p

  -- ((R p + v tau) + t, tau + s): the point is taken at the event's own time tau
  unfoldable pub act_event_at : Quaternion A → Element A → Event A → Event A
  act_event_at q a e =
      record {
        point = (rotate q e.point ⊕ᵥ a.velocity · e.time) ⊕ᵥ a.translation;
        time = e.time ⊕ a.time;
      }

  unfoldable pub act_event : Element A → Event A → Event A
  act_event a e = act_event_at (Rotation.unit_quaternion o (rotation_impl a)) a e

  -- divides by the norm three times: once in rotation_impl, twice in SO(3)'s own
  unfoldable pub normalize : Element A → Element A
  normalize a = record { translation = a.translation; rotation = Rotation.normalize o (rotation_impl a); velocity = a.velocity; time = a.time }

  unfoldable pub rotation_matrix : Element A → Matrix A
  rotation_matrix a = Rotation.rotation_matrix o (rotation_impl a)

  unfoldable pub row5 : Vector A → A → A → List A
  row5 r v t = r.x ∷ r.y ∷ r.z ∷ v ∷ t ∷ []

  -- [R v t; 0 1 s; 0 0 1]
  unfoldable pub matrix_at : Quaternion A → Element A → List (List A)
  matrix_at q a =
      let r = Quaternion.rotation_matrix o q in
      let n = Vector.zero o in
      row5 r.row0 a.velocity.x a.translation.x
      ∷ row5 r.row1 a.velocity.y a.translation.y
      ∷ row5 r.row2 a.velocity.z a.translation.z
      ∷ row5 n 𝟙 a.time
      ∷ row5 n 𝟘 𝟙
      ∷ []

  unfoldable pub matrix : Element A → List (List A)
  matrix a = matrix_at (Rotation.unit_quaternion o (rotation_impl a)) a

  abbrev row6 : Vector A → A → A → A → List A
  row6 h a b c = h.x ∷ h.y ∷ h.z ∷ a ∷ b ∷ c ∷ []

  -- the layout of the algebra: a matrix top left, rho in column 3, nu in column 4, s at (3,5)
  unfoldable pub lie_algebra : Matrix A → Vector A → Vector A → A → List (List A)
  lie_algebra h ρ ν s =
      let n = Vector.zero o in
      row6 h.row0 ρ.x ν.x 𝟘
      ∷ row6 h.row1 ρ.y ν.y 𝟘
      ∷ row6 h.row2 ρ.z ν.z 𝟘
      ∷ row6 n 𝟘 𝟘 s
      ∷ row6 n 𝟘 𝟘 𝟘
      ∷ row6 n 𝟘 𝟘 𝟘
      ∷ []

  unfoldable pub hat : Tangent A → List (List A)
  hat ξ = lie_algebra (Matrix.hat o ξ.theta) ξ.rho ξ.nu ξ.s

  -- the papers' hat, in the algebra of the 5 by 5 matrices: [hat theta, nu, rho; 0 0 s; 0 0 0]
  unfoldable pub hat5 : Tangent A → List (List A)
  hat5 ξ =
      let h = Matrix.hat o ξ.theta in
      let n = Vector.zero o in
      row5 h.row0 ξ.nu.x ξ.rho.x
      ∷ row5 h.row1 ξ.nu.y ξ.rho.y
      ∷ row5 h.row2 ξ.nu.z ξ.rho.z
      ∷ row5 n 𝟘 ξ.s
      ∷ row5 n 𝟘 𝟘
      ∷ []

  unfoldable pub row10 : Vector A → Vector A → Vector A → A → List A
  row10 a b c k = a.x ∷ a.y ∷ a.z ∷ b.x ∷ b.y ∷ b.z ∷ c.x ∷ c.y ∷ c.z ∷ k ∷ []

  -- the layout of a 10 by 10 matrix: [r, b, c, u]; [0, r, d, 0]; [0, 0, r, 0]; the last row 0 but for a final k
  unfoldable pub by_blocks : Matrix A → Matrix A → Matrix A → Matrix A → Vector A → A → List (List A)
  by_blocks r b c d u k =
      let n = Vector.zero o in
      row10 r.row0 b.row0 c.row0 u.x
      ∷ row10 r.row1 b.row1 c.row1 u.y
      ∷ row10 r.row2 b.row2 c.row2 u.z
      ∷ row10 n r.row0 d.row0 𝟘
      ∷ row10 n r.row1 d.row1 𝟘
      ∷ row10 n r.row2 d.row2 𝟘
      ∷ row10 n n r.row0 𝟘
      ∷ row10 n n r.row1 𝟘
      ∷ row10 n n r.row2 𝟘
      ∷ row10 n n n k
      ∷ []

  -- R; -s R, (hat t - s hat v) R, hat v R and v
  unfoldable pub adjoint_at : Quaternion A → Element A → Adjoint A
  adjoint_at q a =
      let r = Quaternion.rotation_matrix o q in
      let v = Matrix.hat o a.velocity in
      record {
        rotation = r;
        rho_nu = Matrix.scale o r (⊝ a.time);
        rho_theta = Matrix.mul o (Matrix.sub o (Matrix.hat o a.translation) (Matrix.scale o v a.time)) r;
        nu_theta = Matrix.mul o v r;
        rho_s = a.velocity;
      }

  unfoldable pub adjoint : Element A → Adjoint A
  adjoint a = adjoint_at (Rotation.unit_quaternion o (rotation_impl a)) a

  -- all hundred places: [R, -s R, (hat t - s hat v) R, v]; [0, R, hat v R, 0]; [0, 0, R, 0]; the last row 0 but for a final 1
  unfoldable pub opened : Adjoint A → List (List A)
  opened d = by_blocks d.rotation d.rho_nu d.rho_theta d.nu_theta d.rho_s 𝟙

  -- [hat theta, -s I, hat rho, nu]; [0, hat theta, hat nu, 0]; [0, 0, hat theta, 0]; the last row 0. -s I is nine products
  unfoldable pub small_adj : Tangent A → List (List A)
  small_adj ξ =
      let b = Matrix.scale o (Matrix.identity o) (⊝ ξ.s) in
      by_blocks (Matrix.hat o ξ.theta) b (Matrix.hat o ξ.rho) (Matrix.hat o ξ.nu) ξ.nu 𝟘

  -- a tangent as ten values, and back
  unfoldable pub coeffs : Tangent A → List A
  coeffs ξ = row10 ξ.rho ξ.nu ξ.theta ξ.s

  unfoldable pub tangent : List A → Tangent A
  tangent l =
      record {
        rho = record { x = get_or l 0 𝟘; y = get_or l 1 𝟘; z = get_or l 2 𝟘 };
        nu = record { x = get_or l 3 𝟘; y = get_or l 4 𝟘; z = get_or l 5 𝟘 };
        theta = record { x = get_or l 6 𝟘; y = get_or l 7 𝟘; z = get_or l 8 𝟘 };
        s = get_or l 9 𝟘;
      }

  -- a 10 by 10 matrix times a tangent
  unfoldable pub apply_tangent : List (List A) → Tangent A → Tangent A
  unfolding row10 coeffs tangent
  apply_tangent m ξ = tangent (Rows.apply o m (coeffs ξ))

  unfoldable pub lie_bracket : Tangent A → Tangent A → Tangent A
  unfolding apply_tangent
  lie_bracket ξ η = apply_tangent (small_adj ξ) η

  -- ---- Jacobians
  -- the adjoint, opened and then negated: its empty places hold -0
  unfoldable pub inverse_jacobian : Element A → List (List A)
  inverse_jacobian a = Rows.neg o (opened (adjoint a))

  -- of compose a b with respect to a
  unfoldable pub compose_jacobian_self : Element A → Element A → Adjoint A
  compose_jacobian_self a b = adjoint (inverse b)

  -- of compose a b with respect to b: the 10 by 10 identity
  unfoldable pub jacobian_identity : List (List A)
  jacobian_identity =
      let n = Vector.zero o in
      let z : Matrix A = record { row0 = n; row1 = n; row2 = n } in
      by_blocks (Matrix.identity o) z z z n 𝟙

  -- of act a p with respect to a, three rows: [R, s R, (-R) hat p, 2 v], R negated before the product; with respect to p it is R
  unfoldable pub act_jacobian_self_at : Matrix A → Element A → Vector A → List (List A)
  act_jacobian_self_at r a p =
      let b = Matrix.scale o r a.time in
      let c = Matrix.mul o (Matrix.neg o r) (Matrix.hat o p) in
      let d = a.velocity · 𝟚 in
      row10 r.row0 b.row0 c.row0 d.x
      ∷ row10 r.row1 b.row1 c.row1 d.y
      ∷ row10 r.row2 b.row2 c.row2 d.z
      ∷ []

  unfoldable pub act_jacobian_self : Element A → Vector A → List (List A)
  act_jacobian_self a p = act_jacobian_self_at (rotation_matrix a) a p
