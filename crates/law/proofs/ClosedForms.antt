-- The closed forms in exact arithmetic, whatever sine and cosine are given: exp's norm and rotation, and how M and the left Jacobian belong together. Assumes nothing.
use mathlib.Core.Path.{◌≡◌, sym, ap, ap₂, ◌∙◌}
use mathlib.Core.List.{[], ◌∷◌}
use Rattle.law.specs.Arithmetic.{Arithmetic}
use Rattle.law.specs.Vector as Vector
use Rattle.law.specs.Vector.{Vector}
use Rattle.law.specs.Matrix as Matrix
use Rattle.law.specs.Quaternion as Quaternion
use Rattle.law.specs.Series as Series
use Rattle.law.specs.GalileanSeries.{coupling_by}
use Rattle.law.specs.ClosedForms.{Angle, exp_by, left_jacobian_by, exp, left_jacobian, s_nu_coupling}
use Rattle.law.specs.Exact.{Exact, exact}
use Rattle.ring.specs.Ring.{Ring}
use Rattle.ring.proofs.Solver.{var, same_by, eval}
use Rattle.law.proofs.Written.{written, vector, of_vector, agree, solve_value, solve_value_by, solve_matrix}
use Rattle.law.proofs.Rotation.{Unit}
use Rattle.law.proofs.Exponential.{ExactDivisor}

module _ {A : Type 0} (𝓔 : Exact A) where
  abbrev o : Arithmetic A
  o = exact 𝓔

  abbrev 𝓡 : Ring A
  𝓡 = 𝓔.ring

  infixl 60 ◌⊕◌ ◌⊖◌
  infixl 70 ◌⊗◌ ◌⊘◌
  abbrev ◌⊕◌ : A → A → A
  a ⊕ b = o.add a b

  abbrev ◌⊖◌ : A → A → A
  a ⊖ b = o.sub a b

  abbrev ◌⊗◌ : A → A → A
  a ⊗ b = o.mul a b

  abbrev ◌⊘◌ : A → A → A
  a ⊘ b = o.div a b

  -- |(c, k h)|² = c² + k² |h|²
  pub exp-norm : (c k : A) (h : Vector A) → Quaternion.norm_squared o (exp_by o c k h) ≡ c ⊗ c ⊕ k ⊗ k ⊗ Vector.norm_squared o h
  unfolding Quaternion.norm_squared Vector.norm_squared exp_by agree eval
  exp-norm c k h =
      let w = written in
      solve_value 𝓡 (of_vector h (c ∷ k ∷ []))
      (Quaternion.norm_squared w (exp_by w (var 3) (var 4) (vector 0)))
      (w.add (w.mul (var 3) (var 3)) (w.mul (w.mul (var 4) (var 4)) (Vector.norm_squared w (vector 0))))
      tt

  -- Rodrigues' formula, with K = k·hat h: R(c, k h) = (c² + k² |h|²)·I + 2c·K + 2·K²
  pub rotation-exp : (c k : A) (h : Vector A)
      → let K = Matrix.scale o (Matrix.hat o h) k in
      Quaternion.rotation_matrix o (exp_by o c k h)
      ≡ Matrix.add o (Matrix.add o (Matrix.scale o (Matrix.identity o) (c ⊗ c ⊕ k ⊗ k ⊗ Vector.norm_squared o h)) (Matrix.scale o K (o.two ⊗ c))) (Matrix.scale o (Matrix.mul o K K) o.two)
  unfolding Quaternion.rotation_matrix Vector.norm_squared Vector.add Vector.scale Matrix.add Matrix.scale Matrix.mul Matrix.row_by Matrix.identity Matrix.hat exp_by agree eval
  rotation-exp c k h =
      let w = written in
      let K = Matrix.scale w (Matrix.hat w (vector 0)) (var 4) in
      solve_matrix 𝓡 (of_vector h (c ∷ k ∷ []))
      (Quaternion.rotation_matrix w (exp_by w (var 3) (var 4) (vector 0)))
      (Matrix.add w (Matrix.add w (Matrix.scale w (Matrix.identity w) (w.add (w.mul (var 3) (var 3)) (w.mul (w.mul (var 4) (var 4)) (Vector.norm_squared w (vector 0))))) (Matrix.scale w K (w.mul w.two (var 3)))) (Matrix.scale w (Matrix.mul w K K) w.two))
      tt

  -- I + hat θ M = Jl, where Jl's first coefficient is ½ - |θ|² b, whatever ½ is
  pub coupling-jacobian : (a b : A) (θ : Vector A)
      → Matrix.add o (Matrix.identity o) (Matrix.mul o (Matrix.hat o θ) (coupling_by o a b θ))
      ≡ left_jacobian_by o (Series.half o ⊖ Vector.norm_squared o θ ⊗ b) a θ
  unfolding Vector.norm_squared Vector.add Vector.scale Matrix.add Matrix.scale Matrix.mul Matrix.row_by Matrix.identity Matrix.hat coupling_by left_jacobian_by agree eval
  coupling-jacobian a b θ =
      let w = written in
      let h = Matrix.hat w (vector 0) in
      solve_matrix 𝓡 (of_vector θ (Series.half o ∷ a ∷ b ∷ []))
      (Matrix.add w (Matrix.identity w) (Matrix.mul w h (Matrix.add w (Matrix.add w (Matrix.scale w (Matrix.identity w) (var 3)) (Matrix.scale w h (var 4))) (Matrix.scale w (Matrix.mul w h h) (var 5)))))
      (left_jacobian_by w (w.sub (var 3) (w.mul (Vector.norm_squared w (vector 0)) (var 5))) (var 4) (vector 0))
      tt

  -- a² b² = (a b)²
  pub squares : (a b : A) → a ⊗ a ⊗ (b ⊗ b) ≡ a ⊗ b ⊗ (a ⊗ b)
  unfolding agree eval
  squares a b =
      let w = written in
      solve_value 𝓡 (a ∷ b ∷ [])
      (w.mul (w.mul (var 0) (var 0)) (w.mul (var 1) (var 1))) (w.mul (w.mul (var 0) (var 1)) (w.mul (var 0) (var 1))) tt

  -- exp is a unit quaternion, though it is not normalised: where cos² + sin² = 1, n² = |h|² and (sin / n) n = sin
  pub exp-unit : (n : Angle A) (h : Vector A)
      → n.cosine ⊗ n.cosine ⊕ n.sine ⊗ n.sine ≡ o.one
      → n.angle ⊗ n.angle ≡ Vector.norm_squared o h
      → n.sine ⊘ n.angle ⊗ n.angle ≡ n.sine
      → Unit 𝓔 (exp o n h)
  unfolding exp
  exp-unit n h circle square quotient =
      let k = n.sine ⊘ n.angle in
      exp-norm n.cosine k h
      ∙ ap (λ c. n.cosine ⊗ n.cosine ⊕ k ⊗ k ⊗ c) (sym square)
      ∙ ap (λ c. n.cosine ⊗ n.cosine ⊕ c) (squares k n.angle ∙ ap (λ c. c ⊗ c) quotient)
      ∙ circle

  -- where division by k is exact, 1/k is its inverse
  undone : (k a : A) → ExactDivisor 𝓔 k → a ⊗ k ⊗ (o.one ⊘ k) ≡ a
  unfolding same_by eval
  undone k a h =
      let w = written in
      solve_value_by 𝓡 (a ∷ k ∷ o.one ⊘ k ∷ []) (w.mul (var 2) (var 1)) w.one (h o.one)
      (var 0) (w.mul (w.mul (var 0) (var 1)) (var 2)) (var 0) tt

  -- and k cancels
  pub cancel : (k a b : A) → ExactDivisor 𝓔 k → a ⊗ k ≡ b ⊗ k → a ≡ b
  cancel k a b h e = sym (undone k a h) ∙ ap (λ c. c ⊗ (o.one ⊘ k)) e ∙ undone k b h

  -- ½ - t b = a, where a = (1 - c)/t and b = ((t + 2c) - 2)/((2t) t)
  first_coefficient : (c t : A) → ExactDivisor 𝓔 o.two → ExactDivisor 𝓔 t → ExactDivisor 𝓔 (o.two ⊗ t ⊗ t)
      → Series.half o ⊖ t ⊗ ((t ⊕ o.two ⊗ c ⊖ o.two) ⊘ (o.two ⊗ t ⊗ t)) ≡ (o.one ⊖ c) ⊘ t
  unfolding Series.half same_by eval
  first_coefficient c t by-two by-t by-2t² =
      let w = written in
      let half = o.one ⊘ o.two in
      let d = o.two ⊗ t ⊗ t in
      let n = t ⊕ o.two ⊗ c ⊖ o.two in
      let b = n ⊘ d in
      let a = (o.one ⊖ c) ⊘ t in
      let d_w = w.mul (w.mul w.two (var 1)) (var 1) in
      let n_w = w.sub (w.add (var 1) (w.mul w.two (var 0))) w.two in
      cancel d (half ⊖ t ⊗ b) a by-2t²
      (solve_value_by 𝓡 (half ∷ t ∷ b ∷ []) (w.mul (var 0) w.two) w.one (by-two o.one)
      (w.mul (var 1) (var 1)) (w.mul (w.sub (var 0) (w.mul (var 1) (var 2))) d_w) (w.sub (w.mul (var 1) (var 1)) (w.mul (var 1) (w.mul (var 2) d_w))) tt
      ∙ ap (λ m. t ⊗ t ⊖ t ⊗ m) (by-2t² n)
      ∙ solve_value_by 𝓡 (c ∷ t ∷ a ∷ []) (w.mul (var 2) (var 1)) (w.sub w.one (var 0)) (by-t (o.one ⊖ c))
      (w.neg (w.mul w.two (var 1))) (w.sub (w.mul (var 1) (var 1)) (w.mul (var 1) n_w)) (w.mul (var 2) d_w) tt)

  -- M and the left Jacobian agree: I + hat θ M = Jl, where t = w² = |θ|² and division by 2, by t and by 2t² is exact
  pub coupling-left_jacobian : (w : Angle A) (θ : Vector A)
      → w.squared ≡ Vector.norm_squared o θ
      → w.angle ⊗ w.angle ≡ w.squared
      → ExactDivisor 𝓔 o.two → ExactDivisor 𝓔 w.squared → ExactDivisor 𝓔 (o.two ⊗ w.squared ⊗ w.squared)
      → Matrix.add o (Matrix.identity o) (Matrix.mul o (Matrix.hat o θ) (s_nu_coupling o w θ)) ≡ left_jacobian o w θ
  unfolding s_nu_coupling left_jacobian
  coupling-left_jacobian w θ norm square by-two by-t by-2t² =
      let t = w.squared in
      let b = (t ⊕ o.two ⊗ w.cosine ⊖ o.two) ⊘ (o.two ⊗ t ⊗ t) in
      coupling-jacobian ((w.angle ⊖ w.sine) ⊘ (w.angle ⊗ w.angle ⊗ w.angle)) b θ
      ∙ ap₂ (λ a c. left_jacobian_by o a c θ)
      (ap (λ s. Series.half o ⊖ s ⊗ b) (sym norm) ∙ first_coefficient w.cosine t by-two by-t by-2t²)
      (ap (λ s. (w.angle ⊖ w.sine) ⊘ (s ⊗ w.angle)) square)
