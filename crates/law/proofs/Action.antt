-- What `act` is in exact arithmetic: the identity leaves a point, but a composition does not act as its parts in turn. Assumes nothing.
use Prim.Native.Nat.{ℕ}
use native.Mathlib.Omega.{arith}
use mathlib.Core.Path.{◌≡◌, refl, sym, ap, ◌∙◌}
use mathlib.Core.List.{[]}
use lib.IntN.{ℤ, pos, one, nat_abs}
use Rattle.law.specs.Arithmetic.{Arithmetic}
use Rattle.law.specs.Vector as Vector
use Rattle.law.specs.Vector.{Vector}
use Rattle.law.specs.Matrix as Matrix
use Rattle.law.specs.Quaternion as Quaternion
use Rattle.law.specs.Quaternion.{Quaternion}
use Rattle.law.specs.Rotation as Rotation
use Rattle.law.specs.Galilean as Galilean
use Rattle.law.specs.Galilean.{Element, identity, compose, compose_at, act, act_at}
use Rattle.law.specs.Exact.{Exact, exact}
use Rattle.ring.specs.Ring.{Ring}
use Rattle.ring.proofs.Solver.{Expr, var, eval}
use Rattle.law.proofs.Written.{written, vector, quaternion, element, of_vector, of_element, agree, solve_vector, solve_vector_by}
use Rattle.law.proofs.Group.{Unit, unit-is, compose-is, compose-unit, identity-unit}
use Rattle.law.proofs.Model.{exact_integers}

module _ {A : Type 0} (𝓔 : Exact A) where
  abbrev o : Arithmetic A
  o = exact 𝓔

  abbrev 𝓡 : Ring A
  𝓡 = 𝓔.ring

  abbrev ◌⊕ᵥ◌ : Vector A → Vector A → Vector A
  a ⊕ᵥ b = Vector.add o a b

  abbrev ◌·◌ : Vector A → A → Vector A
  a · k = Vector.scale o a k

  infixl 60 ◌⊕ᵥ◌
  infixl 70 ◌·◌
  -- v_a (2 s_b) + (R_a v_b) s_a
  abbrev pub defect : Element A → Element A → Vector A
  defect a b = a.velocity · o.mul o.two b.time ⊕ᵥ Quaternion.rotate o a.rotation b.velocity · a.time

  act-is : (a : Element A) (p : Vector A) → Unit 𝓔 a → act o a p ≡ act_at o a.rotation a p
  unfolding act
  act-is a p h = ap (λ q. act_at o q a p) (unit-is 𝓔 a h)

  act_at-identity : (p : Vector A) → act_at o (identity o).rotation (identity o) p ≡ p
  unfolding act_at identity Quaternion.identity Quaternion.rotate Quaternion.vector Vector.zero Vector.add Vector.scale Vector.cross agree eval
  act_at-identity p = let m = written in solve_vector 𝓡 (of_vector p []) (act_at m (identity m).rotation (identity m) (vector 0)) (vector 0) tt

  pub act-identity : (p : Vector A) → act o (identity o) p ≡ p
  act-identity p = act-is (identity o) p (identity-unit 𝓔) ∙ act_at-identity p

  -- the two sides differ as rotate (q r) p and rotate q (rotate r p) do, as in compose_at-assoc of Group
  act_at-compose : (a b : Element A) (p : Vector A) → Unit 𝓔 a → Unit 𝓔 b
      → act_at o (Quaternion.mul o a.rotation b.rotation) (compose_at o a.rotation b.rotation a b) p
      ≡ act_at o a.rotation a (act_at o b.rotation b p) ⊕ᵥ defect a b
  unfolding act_at compose_at Quaternion.mul Quaternion.rotate Quaternion.vector Quaternion.rotation_matrix Quaternion.norm_squared Matrix.apply Vector.add Vector.sub Vector.scale Vector.cross Vector.dot agree eval
  act_at-compose a b p h k =
      let m = written in
      let q = quaternion 3 in
      let r = quaternion 14 in
      let off : Quaternion Expr → Vector Expr =
      λ g. Vector.sub m (Matrix.apply m (Quaternion.rotation_matrix m g) (vector 22)) (Vector.scale m (vector 22) (Quaternion.norm_squared m g)) in
      let left = act_at m (Quaternion.mul m q r) (compose_at m q r (element 0) (element 11)) (vector 22) in
      let right =
      Vector.add m (act_at m q (element 0) (act_at m r (element 11) (vector 22)))
      (Vector.add m (Vector.scale m (vector 7) (m.mul m.two (var 21))) (Vector.scale m (Quaternion.rotate m q (vector 18)) (var 10))) in
      let middle = Vector.add m right (Vector.scale m (off q) (m.sub (Quaternion.norm_squared m r) m.one)) in
      let xs = of_element a (of_element b (of_vector p [])) in
      solve_vector_by 𝓡 xs (Quaternion.norm_squared m q) m.one h (off r) left middle tt
      ∙ solve_vector_by 𝓡 xs (Quaternion.norm_squared m r) m.one k (off q) middle right tt

  pub act-compose-defect : (a b : Element A) (p : Vector A) → Unit 𝓔 a → Unit 𝓔 b → act o (compose o a b) p ≡ act o a (act o b p) ⊕ᵥ defect a b
  unfolding compose_at
  act-compose-defect a b p h k =
      act-is (compose o a b) p (compose-unit 𝓔 a b h k)
      ∙ ap (λ (c : Element A). act_at o c.rotation c p) (compose-is 𝓔 a b h k)
      ∙ act_at-compose a b p h k
      ∙ ap (λ x. x ⊕ᵥ defect a b) (sym (act-is a (act o b p) h ∙ ap (act_at o a.rotation a) (act-is b p k)))

-- in the integers: a velocity along x, after one unit of time, moves the origin to x = 2, and the two in turn leave it
abbrev i : Arithmetic ℤ
i = exact exact_integers

abbrev origin : Vector ℤ
origin = record { x = pos 0; y = pos 0; z = pos 0 }

abbrev moving : Element ℤ
moving = record { translation = origin; rotation = Quaternion.identity i; velocity = record { x = pos 1; y = pos 0; z = pos 0 }; time = pos 0 }

abbrev waiting : Element ℤ
waiting = record { translation = origin; rotation = Quaternion.identity i; velocity = origin; time = pos 1 }

pub act-not-action : ((a b : Element ℤ) (p : Vector ℤ) → Unit exact_integers a → Unit exact_integers b → act i (compose i a b) p ≡ act i a (act i b p)) → ⊥
unfolding act act_at compose compose_at Galilean.rotation_impl Rotation.unit_quaternion Quaternion.normalize Quaternion.divide Quaternion.norm Quaternion.norm_squared Quaternion.identity Quaternion.mul Quaternion.rotate Quaternion.vector Vector.add Vector.scale Vector.cross one
act-not-action h = apart (ap (λ (p : Vector ℤ). nat_abs p.x) (h moving waiting origin refl refl))
  where
    apart : ◌≡◌ {A = ℕ} 2 0 → ⊥
    apart e = omega arith
