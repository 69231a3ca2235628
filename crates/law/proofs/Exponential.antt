-- How exp and log of SGal(3) undo each other where the angle is small, in exact arithmetic, with what is left over stated exactly. Assumes nothing.
use mathlib.Core.Path.{◌≡◌, sym, ap, ap₂, ◌∙◌}
use mathlib.Core.List.{[], ◌∷◌}
use Rattle.law.specs.Arithmetic.{Arithmetic}
use Rattle.law.specs.Vector as Vector
use Rattle.law.specs.Vector.{Vector}
use Rattle.law.specs.Matrix as Matrix
use Rattle.law.specs.Matrix.{Matrix}
use Rattle.law.specs.Quaternion as Quaternion
use Rattle.law.specs.Quaternion.{Quaternion}
use Rattle.law.specs.Rotation as Rotation
use Rattle.law.specs.Galilean.{Element, Tangent}
use Rattle.law.specs.Series as Series
use Rattle.law.specs.GalileanSeries.{Divisors, exp, exp_by, log_by, log_at, s_nu_coupling}
use Rattle.law.specs.Exact.{Exact, exact}
use Rattle.ring.specs.Ring.{Ring}
use Rattle.ring.proofs.Solver.{var, eval}
use Rattle.law.proofs.Written.{written, vector, matrix, of_vector, of_matrix, agree, solve_value, solve_vector, solve_vector_by, solve_matrix}
use Rattle.law.proofs.Rotation.{apply-mul}
use Rattle.law.proofs.Series.{plus_hat-minus_hat, minus_hat-plus_hat}

module _ {A : Type 0} (𝓔 : Exact A) where
  abbrev o : Arithmetic A
  o = exact 𝓔

  abbrev 𝓡 : Ring A
  𝓡 = 𝓔.ring

  infixl 60 ◌⊕ᵥ◌ ◌⊖ᵥ◌
  infixl 70 ◌·◌
  abbrev ◌⊕ᵥ◌ : Vector A → Vector A → Vector A
  a ⊕ᵥ b = Vector.add o a b

  abbrev ◌⊖ᵥ◌ : Vector A → Vector A → Vector A
  a ⊖ᵥ b = Vector.sub o a b

  abbrev ◌·◌ : Vector A → A → Vector A
  a · k = Vector.scale o a k

  abbrev apply : Matrix A → Vector A → Vector A
  apply m p = Matrix.apply o m p

  -- a matrix times a sum of vectors
  pub apply-add : (m : Matrix A) (a b : Vector A) → apply m (a ⊕ᵥ b) ≡ apply m a ⊕ᵥ apply m b
  unfolding Matrix.apply Vector.dot Vector.add agree eval
  apply-add m a b =
      let w = written in
      solve_vector 𝓡 (of_matrix m (of_vector a (of_vector b [])))
      (Matrix.apply w (matrix 0) (Vector.add w (vector 9) (vector 12)))
      (Vector.add w (Matrix.apply w (matrix 0) (vector 9)) (Matrix.apply w (matrix 0) (vector 12)))
      tt

  -- a matrix times a difference of vectors
  pub apply-sub : (m : Matrix A) (a b : Vector A) → apply m (a ⊖ᵥ b) ≡ apply m a ⊖ᵥ apply m b
  unfolding Matrix.apply Vector.dot Vector.sub agree eval
  apply-sub m a b =
      let w = written in
      solve_vector 𝓡 (of_matrix m (of_vector a (of_vector b [])))
      (Matrix.apply w (matrix 0) (Vector.sub w (vector 9) (vector 12)))
      (Vector.sub w (Matrix.apply w (matrix 0) (vector 9)) (Matrix.apply w (matrix 0) (vector 12)))
      tt

  -- a matrix times a multiple of a vector
  pub apply-scale : (m : Matrix A) (a : Vector A) (s : A) → apply m (a · s) ≡ apply m a · s
  unfolding Matrix.apply Vector.dot Vector.scale agree eval
  apply-scale m a s =
      let w = written in
      solve_vector 𝓡 (of_matrix m (of_vector a (s ∷ [])))
      (Matrix.apply w (matrix 0) (Vector.scale w (vector 9) (var 12))) (Vector.scale w (Matrix.apply w (matrix 0) (vector 9)) (var 12)) tt

  -- the identity less a matrix, times a vector
  pub apply-identity-sub : (K : Matrix A) (a : Vector A) → apply (Matrix.sub o (Matrix.identity o) K) a ≡ a ⊖ᵥ apply K a
  unfolding Matrix.apply Matrix.sub Matrix.identity Vector.dot Vector.sub agree eval
  apply-identity-sub K a =
      let w = written in
      solve_vector 𝓡 (of_matrix K (of_vector a []))
      (Matrix.apply w (Matrix.sub w (Matrix.identity w) (matrix 0)) (vector 9)) (Vector.sub w (vector 9) (Matrix.apply w (matrix 0) (vector 9))) tt

  -- i after j, where i j = I - K
  apply-product : (i j K : Matrix A) (a : Vector A) → Matrix.mul o i j ≡ Matrix.sub o (Matrix.identity o) K → apply i (apply j a) ≡ a ⊖ᵥ apply K a
  apply-product i j K a h = sym (apply-mul 𝓔 i j a) ∙ ap (λ n. apply n a) h ∙ apply-identity-sub K a

  -- multiples by the same s, one added and one taken away
  add-sub-scale : (a b c : Vector A) (s : A) → (a ⊕ᵥ b · s) ⊖ᵥ c · s ≡ a ⊕ᵥ (b ⊖ᵥ c) · s
  unfolding Vector.add Vector.sub Vector.scale agree eval
  add-sub-scale a b c s =
      let w = written in
      solve_vector 𝓡 (of_vector a (of_vector b (of_vector c (s ∷ []))))
      (Vector.sub w (Vector.add w (vector 0) (Vector.scale w (vector 3) (var 9))) (Vector.scale w (vector 6) (var 9)))
      (Vector.add w (vector 0) (Vector.scale w (Vector.sub w (vector 3) (vector 6)) (var 9)))
      tt

  -- a - (a - b) = b
  sub-sub : (a b : Vector A) → a ⊖ᵥ (a ⊖ᵥ b) ≡ b
  unfolding Vector.sub agree eval
  sub-sub a b = let w = written in solve_vector 𝓡 (of_vector a (of_vector b [])) (Vector.sub w (vector 0) (Vector.sub w (vector 0) (vector 3))) (vector 3) tt

  -- b·s taken away and added: what is left is d·s
  cancel-sub : (a b c d : Vector A) (s : A) → ((a ⊖ᵥ b · s) ⊖ᵥ (c ⊖ᵥ d · s)) ⊕ᵥ b · s ≡ (a ⊖ᵥ c) ⊕ᵥ d · s
  unfolding Vector.add Vector.sub Vector.scale agree eval
  cancel-sub a b c d s =
      let w = written in
      solve_vector 𝓡 (of_vector a (of_vector b (of_vector c (of_vector d (s ∷ [])))))
      (Vector.add w (Vector.sub w (Vector.sub w (vector 0) (Vector.scale w (vector 3) (var 12))) (Vector.sub w (vector 6) (Vector.scale w (vector 9) (var 12)))) (Vector.scale w (vector 3) (var 12)))
      (Vector.add w (Vector.sub w (vector 0) (vector 6)) (Vector.scale w (vector 9) (var 12)))
      tt

  -- K = k²·(hat θ)², of second order in θ
  abbrev pub second_order : A → Vector A → Matrix A
  second_order k θ = Matrix.scale o (Matrix.mul o (Matrix.hat o θ) (Matrix.hat o θ)) (o.mul k k)

  -- what log gives back of exp's ξ, with ν' = ν - K ν, M for exp and L for log: ν', and (ρ - K ρ) + s (J⁻¹ (M ν - L ν'))
  abbrev pub returned_tangent_by : Matrix A → Matrix A → Matrix A → Matrix A → Vector A → Tangent A → Tangent A
  returned_tangent_by i K m l θ ξ =
      record {
        rho = (ξ.rho ⊖ᵥ apply K ξ.rho) ⊕ᵥ apply i (apply m ξ.nu ⊖ᵥ apply l (ξ.nu ⊖ᵥ apply K ξ.nu)) · ξ.s;
        nu = ξ.nu ⊖ᵥ apply K ξ.nu;
        theta = θ;
        s = ξ.s;
      }

  -- the same where L is M: ν - K ν, and (ρ - K ρ) + s (J⁻¹ (M (K ν)))
  abbrev pub returned_tangent : Matrix A → Matrix A → Matrix A → Vector A → Tangent A → Tangent A
  returned_tangent i K m θ ξ =
      record {
        rho = (ξ.rho ⊖ᵥ apply K ξ.rho) ⊕ᵥ apply i (apply m (apply K ξ.nu)) · ξ.s;
        nu = ξ.nu ⊖ᵥ apply K ξ.nu;
        theta = θ;
        s = ξ.s;
      }

  -- what exp gives back of log's a, with the rotation q: v - K v, and (t - K t) + s (K (M (J⁻¹ v)))
  abbrev pub returned_element : Matrix A → Matrix A → Matrix A → Quaternion A → Element A → Element A
  returned_element i K m q a =
      record {
        translation = (a.translation ⊖ᵥ apply K a.translation) ⊕ᵥ apply K (apply m (apply i a.velocity)) · a.time;
        rotation = q;
        velocity = a.velocity ⊖ᵥ apply K a.velocity;
        time = a.time;
      }

  -- log after exp, for any matrices with i j = I - K, any m for exp and any l for log
  pub log_by-exp_by-general : (i j K m l : Matrix A) (θ : Vector A) (q : Quaternion A) (ξ : Tangent A) → Matrix.mul o i j ≡ Matrix.sub o (Matrix.identity o) K
      → log_by o i l θ (exp_by o j m q ξ) ≡ returned_tangent_by i K m l θ ξ
  unfolding log_by exp_by
  log_by-exp_by-general i j K m l θ q ξ h =
      let p = apply j ξ.rho in
      let n = apply m ξ.nu in
      let c = apply l (ξ.nu ⊖ᵥ apply K ξ.nu) in
      let at_nu : apply i (apply j ξ.nu) ≡ ξ.nu ⊖ᵥ apply K ξ.nu = apply-product i j K ξ.nu h in
      let at_rho : apply i ((p ⊕ᵥ n · ξ.s) ⊖ᵥ apply l (apply i (apply j ξ.nu)) · ξ.s) ≡ (ξ.rho ⊖ᵥ apply K ξ.rho) ⊕ᵥ apply i (n ⊖ᵥ c) · ξ.s =
      ap (λ b. apply i ((p ⊕ᵥ n · ξ.s) ⊖ᵥ apply l b · ξ.s)) at_nu
      ∙ ap (apply i) (add-sub-scale p n c ξ.s)
      ∙ apply-add i p ((n ⊖ᵥ c) · ξ.s)
      ∙ ap₂ ◌⊕ᵥ◌ (apply-product i j K ξ.rho h) (apply-scale i (n ⊖ᵥ c) ξ.s) in
      ap₂ (λ (r u : Vector A). record { rho = r; nu = u; theta = θ; s = ξ.s }) at_rho at_nu

  -- the same with one m for both
  pub log_by-exp_by : (i j K m : Matrix A) (θ : Vector A) (q : Quaternion A) (ξ : Tangent A) → Matrix.mul o i j ≡ Matrix.sub o (Matrix.identity o) K
      → log_by o i m θ (exp_by o j m q ξ) ≡ returned_tangent i K m θ ξ
  log_by-exp_by i j K m θ q ξ h =
      let rest : apply m ξ.nu ⊖ᵥ apply m (ξ.nu ⊖ᵥ apply K ξ.nu) ≡ apply m (apply K ξ.nu) =
      ap (λ c. apply m ξ.nu ⊖ᵥ c) (apply-sub m ξ.nu (apply K ξ.nu)) ∙ sub-sub (apply m ξ.nu) (apply m (apply K ξ.nu)) in
      log_by-exp_by-general i j K m m θ q ξ h
      ∙ ap (λ c. record { rho = (ξ.rho ⊖ᵥ apply K ξ.rho) ⊕ᵥ apply i c · ξ.s; nu = ξ.nu ⊖ᵥ apply K ξ.nu; theta = θ; s = ξ.s }) rest

  -- exp after log, for any matrices with j i = I - K, and any m
  pub exp_by-log_by : (i j K m : Matrix A) (θ : Vector A) (q : Quaternion A) (a : Element A) → Matrix.mul o j i ≡ Matrix.sub o (Matrix.identity o) K
      → exp_by o j m q (log_by o i m θ a) ≡ returned_element i K m q a
  unfolding log_by exp_by
  exp_by-log_by i j K m θ q a h =
      let n = apply m (apply i a.velocity) in
      let p = a.translation ⊖ᵥ n · a.time in
      let at_translation : apply j (apply i p) ⊕ᵥ n · a.time ≡ (a.translation ⊖ᵥ apply K a.translation) ⊕ᵥ apply K n · a.time =
      ap (λ c. c ⊕ᵥ n · a.time) (apply-product j i K p h)
      ∙ ap (λ c. (p ⊖ᵥ c) ⊕ᵥ n · a.time) (apply-sub K a.translation (n · a.time) ∙ ap (λ c. apply K a.translation ⊖ᵥ c) (apply-scale K n a.time))
      ∙ cancel-sub a.translation n (apply K a.translation) (apply K n) a.time in
      ap₂ (λ (t v : Vector A). record { translation = t; rotation = q; velocity = v; time = a.time }) at_translation (apply-product j i K a.velocity h)

  -- log after exp, with I + k·hat θ for J and I - k·hat θ for its inverse
  pub log_by-exp_by-hat : (k : A) (m : Matrix A) (θ : Vector A) (q : Quaternion A) (ξ : Tangent A)
      → log_by o (Series.minus_hat o k θ) m θ (exp_by o (Series.plus_hat o k θ) m q ξ) ≡ returned_tangent (Series.minus_hat o k θ) (second_order k θ) m θ ξ
  log_by-exp_by-hat k m θ q ξ = log_by-exp_by (Series.minus_hat o k θ) (Series.plus_hat o k θ) (second_order k θ) m θ q ξ (minus_hat-plus_hat 𝓔 k θ)

  -- exp after log, with the same two
  pub exp_by-log_by-hat : (k : A) (m : Matrix A) (θ : Vector A) (q : Quaternion A) (a : Element A)
      → exp_by o (Series.plus_hat o k θ) m q (log_by o (Series.minus_hat o k θ) m θ a) ≡ returned_element (Series.minus_hat o k θ) (second_order k θ) m q a
  exp_by-log_by-hat k m θ q a = exp_by-log_by (Series.minus_hat o k θ) (Series.plus_hat o k θ) (second_order k θ) m θ q a (plus_hat-minus_hat 𝓔 k θ)

  -- log after exp as defined: what is lacking is of second order in θ, whatever the divisors and ½ are
  pub log-exp : (d : Divisors A) (ξ : Tangent A)
      → log_at o d ξ.theta (exp o d ξ)
      ≡ returned_tangent (Series.left_jacobian_inv o ξ.theta) (second_order (Series.half o) ξ.theta) (s_nu_coupling o d ξ.theta) ξ.theta ξ
  unfolding log_at exp Series.left_jacobian Series.left_jacobian_inv
  log-exp d ξ = log_by-exp_by-hat (Series.half o) (s_nu_coupling o d ξ.theta) ξ.theta (Series.exp o ξ.theta) ξ

  -- exp after log as defined, with the log θ and the rotation q given
  pub exp-log : (d : Divisors A) (θ : Vector A) (q : Quaternion A) (a : Element A)
      → exp_by o (Series.left_jacobian o θ) (s_nu_coupling o d θ) q (log_at o d θ a)
      ≡ returned_element (Series.left_jacobian_inv o θ) (second_order (Series.half o) θ) (s_nu_coupling o d θ) q a
  unfolding log_at Series.left_jacobian Series.left_jacobian_inv
  exp-log d θ q a = exp_by-log_by-hat (Series.half o) (s_nu_coupling o d θ) θ q a

  -- ---- the rotation
  -- (1, θ/2), which exp normalises
  abbrev pub first_order : Vector A → Quaternion A
  first_order θ = record { w = o.one; x = o.div θ.x o.two; y = o.div θ.y o.two; z = o.div θ.z o.two }

  -- division by k is undone by multiplication
  abbrev pub ExactDivisor : A → Type 0
  ExactDivisor k = (a : A) → o.mul (o.div a k) k ≡ a

  pub divide-scale : (a : Vector A) (k : A) → ExactDivisor k → Vector.divide o a k · k ≡ a
  unfolding Vector.divide Vector.scale
  divide-scale a k h = simp (h a.x, h a.y, h a.z)

  scale-swap : (a : Vector A) (k n : A) → (a · k) · n ≡ (a · n) · k
  unfolding Vector.scale agree eval
  scale-swap a k n =
      let w = written in
      solve_vector 𝓡 (of_vector a (k ∷ n ∷ [])) (Vector.scale w (Vector.scale w (vector 0) (var 3)) (var 4)) (Vector.scale w (Vector.scale w (vector 0) (var 4)) (var 3)) tt

  -- log after exp: the angle that comes back, times the norm of (1, θ/2), is the angle given
  pub log-exp-rotation : (θ : Vector A) → ExactDivisor o.two → ExactDivisor (Quaternion.norm o (first_order θ))
      → Series.log_by o o.two (Series.exp o θ) · Quaternion.norm o (first_order θ) ≡ θ
  unfolding Series.log_by Series.exp Rotation.unit_quaternion Quaternion.normalize Quaternion.divide Quaternion.vector Vector.divide
  log-exp-rotation θ h k =
      let n = Quaternion.norm o (first_order θ) in
      let u = Vector.divide o θ o.two in
      scale-swap (Vector.divide o u n) o.two n ∙ ap (λ c. c · o.two) (divide-scale u n k) ∙ divide-scale θ o.two h

  -- the norm of (1, θ/2) squared is 1 + |θ/2|²
  pub norm_squared-first_order : (θ : Vector A)
      → Quaternion.norm_squared o (first_order θ) ≡ o.add o.one (Vector.norm_squared o (Vector.divide o θ o.two))
  unfolding Quaternion.norm_squared Vector.norm_squared Vector.divide agree eval
  norm_squared-first_order θ =
      let w = written in
      solve_value 𝓡 (of_vector (Vector.divide o θ o.two) [])
      (Quaternion.norm_squared w (record { w = w.one; x = var 0; y = var 1; z = var 2 }))
      (w.add w.one (Vector.norm_squared w (vector 0)))
      tt

  -- where n² = 1 + b
  scale-remainder : (p : Vector A) (n b : A) → o.mul n n ≡ o.add o.one b → (p · n ⊖ᵥ p) · o.add n o.one ≡ p · b
  unfolding Vector.sub Vector.scale agree eval
  scale-remainder p n b h =
      let w = written in
      solve_vector_by 𝓡 (of_vector p (n ∷ b ∷ [])) (w.mul (var 3) (var 3)) (w.add w.one (var 4)) h (vector 0)
      (Vector.scale w (Vector.sub w (Vector.scale w (vector 0) (var 3)) (vector 0)) (w.add (var 3) w.one))
      (Vector.scale w (vector 0) (var 4))
      tt

  -- the angle given less the angle φ that comes back: with n the norm, and the root exact at it, (θ - φ) (n + 1) = φ |θ/2|², of third order
  pub log-exp-rotation-remainder : (θ : Vector A) → ExactDivisor o.two → ExactDivisor (Quaternion.norm o (first_order θ))
      → o.mul (Quaternion.norm o (first_order θ)) (Quaternion.norm o (first_order θ)) ≡ Quaternion.norm_squared o (first_order θ)
      → (θ ⊖ᵥ Series.log_by o o.two (Series.exp o θ)) · o.add (Quaternion.norm o (first_order θ)) o.one
      ≡ Series.log_by o o.two (Series.exp o θ) · Vector.norm_squared o (Vector.divide o θ o.two)
  log-exp-rotation-remainder θ h k r =
      let n = Quaternion.norm o (first_order θ) in
      let φ = Series.log_by o o.two (Series.exp o θ) in
      ap (λ c. (c ⊖ᵥ φ) · o.add n o.one) (sym (log-exp-rotation θ h k))
      ∙ scale-remainder φ n (Vector.norm_squared o (Vector.divide o θ o.two)) (r ∙ norm_squared-first_order θ)

  -- exp after log: a quaternion with 1 in place of w, normalised, where dividing by 2 undoes doubling
  pub exp-log-rotation : (q : Quaternion A) → ((a : A) → o.div (o.mul a o.two) o.two ≡ a)
      → Series.exp o (Series.log_by o o.two q) ≡ Quaternion.normalize o (record { w = o.one; x = q.x; y = q.y; z = q.z })
  unfolding Series.log_by Series.exp Rotation.unit_quaternion Quaternion.vector Vector.scale
  exp-log-rotation q h = simp (h q.x, h q.y, h q.z)

  -- ---- both
  -- K at φ, where θ is n φ: k²n·(hat φ)² - k (n - 1)·hat φ. Of second order, for n - 1 is so
  abbrev pub second_order_at : A → A → Vector A → Matrix A
  second_order_at k n φ =
      let h = Matrix.hat o φ in
      Matrix.sub o (Matrix.scale o (Matrix.mul o h h) (o.mul (o.mul k k) n)) (Matrix.scale o h (o.mul k (o.sub n o.one)))

  -- (I - k·hat φ) (I + k·hat (n φ)) = I - K
  minus_hat-plus_hat-scale : (k n : A) (φ : Vector A)
      → Matrix.mul o (Series.minus_hat o k φ) (Series.plus_hat o k (φ · n)) ≡ Matrix.sub o (Matrix.identity o) (second_order_at k n φ)
  unfolding Series.plus_hat Series.minus_hat Matrix.mul Matrix.row_by Matrix.add Matrix.sub Matrix.scale Matrix.identity Matrix.hat Vector.add Vector.sub Vector.scale agree eval
  minus_hat-plus_hat-scale k n φ =
      let w = written in
      let h = Matrix.hat w (vector 0) in
      solve_matrix 𝓡 (of_vector φ (k ∷ n ∷ []))
      (Matrix.mul w (Series.minus_hat w (var 3) (vector 0)) (Series.plus_hat w (var 3) (Vector.scale w (vector 0) (var 4))))
      (Matrix.sub w (Matrix.identity w) (Matrix.sub w (Matrix.scale w (Matrix.mul w h h) (w.mul (w.mul (var 3) (var 3)) (var 4))) (Matrix.scale w h (w.mul (var 3) (w.sub (var 4) w.one)))))
      tt

  -- log after exp where the angle φ, too, is the log of exp's rotation
  pub log-exp-both : (d : Divisors A) (ξ : Tangent A) → ExactDivisor o.two → ExactDivisor (Quaternion.norm o (first_order ξ.theta))
      → let φ = Series.log_by o o.two (exp o d ξ).rotation in
      let n = Quaternion.norm o (first_order ξ.theta) in
      log_at o d φ (exp o d ξ)
      ≡ returned_tangent_by (Series.left_jacobian_inv o φ) (second_order_at (Series.half o) n φ) (s_nu_coupling o d ξ.theta) (s_nu_coupling o d φ) φ ξ
  unfolding log_at exp exp_by Series.left_jacobian Series.left_jacobian_inv
  log-exp-both d ξ h k =
      let θ = ξ.theta in
      let q = Series.exp o θ in
      let φ = Series.log_by o o.two q in
      let n = Quaternion.norm o (first_order θ) in
      let product : Matrix.mul o (Series.minus_hat o (Series.half o) φ) (Series.plus_hat o (Series.half o) θ)
      ≡ Matrix.sub o (Matrix.identity o) (second_order_at (Series.half o) n φ) =
      ap (λ c. Matrix.mul o (Series.minus_hat o (Series.half o) φ) (Series.plus_hat o (Series.half o) c)) (sym (log-exp-rotation θ h k))
      ∙ minus_hat-plus_hat-scale (Series.half o) n φ in
      log_by-exp_by-general (Series.minus_hat o (Series.half o) φ) (Series.plus_hat o (Series.half o) θ) (second_order_at (Series.half o) n φ)
      (s_nu_coupling o d θ) (s_nu_coupling o d φ) φ q ξ product
