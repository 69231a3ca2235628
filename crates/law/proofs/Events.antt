-- What `act_event` is in exact arithmetic: the matrix times the event, an action of the group, and of an event at the element's own time the point that `act` gives.
-- Assumes nothing.
use mathlib.Core.Path.{◌≡◌, sym, ap, ap₂, ◌∙◌}
use mathlib.Core.List.{List, [], ◌∷◌}
use Rattle.law.specs.Arithmetic.{Arithmetic}
use Rattle.law.specs.Vector as Vector
use Rattle.law.specs.Vector.{Vector}
use Rattle.law.specs.Matrix as Matrix
use Rattle.law.specs.Quaternion as Quaternion
use Rattle.law.specs.Quaternion.{Quaternion}
use Rattle.law.specs.Rotation as Rotation
use Rattle.law.specs.Rows as Rows
use Rattle.law.specs.Galilean as Galilean
use Rattle.law.specs.Galilean.{Element, Event, identity, compose, compose_at, matrix, matrix_at, act, act_at, act_event, act_event_at}
use Rattle.law.specs.Exact.{Exact, exact}
use Rattle.ring.specs.Ring.{Ring}
use Rattle.ring.proofs.Solver.{Expr, var, zer, eval}
use Rattle.law.proofs.Written.{written, vector, quaternion, element, of_vector, of_element, agree, agrees, solve_value, solve_vector, solve_vector_by, solve_rows_by}
use Rattle.law.proofs.Group.{Unit, unit-is, matrix-is, compose-is, compose-unit, identity-unit}

module _ {A : Type 0} (𝓔 : Exact A) where
  abbrev o : Arithmetic A
  o = exact 𝓔

  abbrev 𝓡 : Ring A
  𝓡 = 𝓔.ring

  abbrev event : Vector A → A → Event A
  event p t = record { point = p; time = t }

  -- (p, tau, 1) as a column
  abbrev pub column : Event A → List (List A)
  column e = (e.point.x ∷ []) ∷ (e.point.y ∷ []) ∷ (e.point.z ∷ []) ∷ (e.time ∷ []) ∷ (o.one ∷ []) ∷ []

  act_event-is : (a : Element A) (e : Event A) → Unit 𝓔 a → act_event o a e ≡ act_event_at o a.rotation a e
  unfolding act_event
  act_event-is a e h = ap (λ q. act_event_at o q a e) (unit-is 𝓔 a h)

  -- rotate q p is R p where |q|² = 1
  act_event_at-matrix : (a : Element A) (e : Event A) → Unit 𝓔 a
      → column (act_event_at o a.rotation a e) ≡ Rows.mul o (matrix_at o a.rotation a) (column e)
  unfolding act_event_at matrix_at Galilean.row5 Rows.mul Rows.dot Rows.transpose Quaternion.rotate Quaternion.vector Quaternion.rotation_matrix Quaternion.norm_squared Vector.zero Vector.add Vector.neg Vector.scale Vector.cross agrees eval
  act_event_at-matrix a e h =
      let m = written in
      let q = quaternion 3 in
      let p = Vector.neg m (vector 11) in
      let r = act_event_at m q (element 0) (record { point = vector 11; time = var 14 }) in
      solve_rows_by 𝓡 (of_element a (of_vector e.point (e.time ∷ []))) (Quaternion.norm_squared m q) m.one h
      ((p.x ∷ []) ∷ (p.y ∷ []) ∷ (p.z ∷ []) ∷ [])
      ((r.point.x ∷ []) ∷ (r.point.y ∷ []) ∷ (r.point.z ∷ []) ∷ (r.time ∷ []) ∷ (m.one ∷ []) ∷ [])
      (Rows.mul m (matrix_at m q (element 0)) ((var 11 ∷ []) ∷ (var 12 ∷ []) ∷ (var 13 ∷ []) ∷ (var 14 ∷ []) ∷ (m.one ∷ []) ∷ []))
      tt

  pub act_event-matrix : (a : Element A) (e : Event A) → Unit 𝓔 a → column (act_event o a e) ≡ Rows.mul o (matrix o a) (column e)
  act_event-matrix a e h =
      ap column (act_event-is a e h) ∙ act_event_at-matrix a e h ∙ ap (λ m. Rows.mul o m (column e)) (sym (matrix-is 𝓔 a h))

  -- at the element's own time its point is act's; nothing is asked of the quaternion
  pub act_event-act : (a : Element A) (p : Vector A) → (act_event o a (event p a.time)).point ≡ act o a p
  unfolding act_event act_event_at act act_at Vector.add agree eval
  act_event-act a p =
      let m = written in
      let r = Quaternion.rotate o (Rotation.unit_quaternion o (Galilean.rotation_impl o a)) p in
      solve_vector 𝓡 (of_vector r (of_vector (Vector.scale o a.velocity a.time) (of_vector a.translation [])))
      (Vector.add m (Vector.add m (vector 0) (vector 3)) (vector 6))
      (Vector.add m (Vector.add m (vector 0) (vector 6)) (vector 3))
      tt

  -- the identity leaves an event
  act_event_at-identity : (e : Event A) → act_event_at o (identity o).rotation (identity o) e ≡ e
  unfolding act_event_at identity Quaternion.identity Quaternion.rotate Quaternion.vector Vector.zero Vector.add Vector.scale Vector.cross agree eval
  act_event_at-identity e =
      let m = written in
      let xs = of_vector e.point (e.time ∷ []) in
      let r = act_event_at m (identity m).rotation (identity m) (record { point = vector 0; time = var 3 }) in
      ap₂ event (solve_vector 𝓡 xs r.point (vector 0) tt) (solve_value 𝓡 xs r.time (var 3) tt)

  pub act_event-identity : (e : Event A) → act_event o (identity o) e ≡ e
  act_event-identity e = act_event-is (identity o) e (identity-unit 𝓔) ∙ act_event_at-identity e

  -- the two sides differ as rotate (q r) p and rotate q (rotate r p) do, as in compose_at-assoc of Group
  act_event_at-compose : (a b : Element A) (e : Event A) → Unit 𝓔 a → Unit 𝓔 b
      → act_event_at o (Quaternion.mul o a.rotation b.rotation) (compose_at o a.rotation b.rotation a b) e
      ≡ act_event_at o a.rotation a (act_event_at o b.rotation b e)
  unfolding act_event_at compose_at Quaternion.mul Quaternion.rotate Quaternion.vector Quaternion.rotation_matrix Quaternion.norm_squared Matrix.apply Vector.add Vector.sub Vector.scale Vector.cross Vector.dot agree eval
  act_event_at-compose a b e h k =
      let m = written in
      let q = quaternion 3 in
      let r = quaternion 14 in
      let d : Event Expr = record { point = vector 22; time = var 25 } in
      let off : Quaternion Expr → Vector Expr =
      λ g. Vector.sub m (Matrix.apply m (Quaternion.rotation_matrix m g) (vector 22)) (Vector.scale m (vector 22) (Quaternion.norm_squared m g)) in
      let left = act_event_at m (Quaternion.mul m q r) (compose_at m q r (element 0) (element 11)) d in
      let right = act_event_at m q (element 0) (act_event_at m r (element 11) d) in
      let middle = Vector.add m right.point (Vector.scale m (off q) (m.sub (Quaternion.norm_squared m r) m.one)) in
      let xs = of_element a (of_element b (of_vector e.point (e.time ∷ []))) in
      ap₂ event
      (solve_vector_by 𝓡 xs (Quaternion.norm_squared m q) m.one h (off r) left.point middle tt
      ∙ solve_vector_by 𝓡 xs (Quaternion.norm_squared m r) m.one k (off q) middle right.point tt)
      (solve_value 𝓡 xs left.time right.time tt)

  -- a composition acts as its parts in turn
  pub act_event-compose : (a b : Element A) (e : Event A) → Unit 𝓔 a → Unit 𝓔 b → act_event o (compose o a b) e ≡ act_event o a (act_event o b e)
  unfolding compose_at
  act_event-compose a b e h k =
      act_event-is (compose o a b) e (compose-unit 𝓔 a b h k)
      ∙ ap (λ (c : Element A). act_event_at o c.rotation c e) (compose-is 𝓔 a b h k)
      ∙ act_event_at-compose a b e h k
      ∙ sym (act_event-is a (act_event o b e) h ∙ ap (act_event_at o a.rotation a) (act_event-is b e k))
