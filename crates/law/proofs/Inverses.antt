-- The closed forms in exact arithmetic: the left Jacobian and its inverse undo each other, and log undoes exp. What is asked of an angle is that
-- cos² + sin² = 1, that w² = |θ|², and that division by what divides here is exact. Assumes nothing.
use mathlib.Core.Path.{◌≡◌, sym, ap, ap₂, ◌∙◌}
use mathlib.Core.List.{List, [], ◌∷◌}
use Rattle.law.specs.Arithmetic.{Arithmetic}
use Rattle.law.specs.Vector as Vector
use Rattle.law.specs.Vector.{Vector}
use Rattle.law.specs.Matrix as Matrix
use Rattle.law.specs.Matrix.{Matrix}
use Rattle.law.specs.Quaternion as Quaternion
use Rattle.law.specs.Quaternion.{Quaternion}
use Rattle.law.specs.Galilean.{Element, Tangent}
use Rattle.law.specs.Series as Series
use Rattle.law.specs.GalileanSeries as GalileanSeries
use Rattle.law.specs.ClosedForms.{Angle, exp_by, left_jacobian_by, left_jacobian_inv_by, exp, log_coefficient, left_jacobian, left_jacobian_inv}
use Rattle.law.specs.ClosedForms.{s_nu_coupling}
use Rattle.law.specs.Exact.{Exact, exact}
use Rattle.ring.specs.Ring.{Ring}
use Rattle.ring.proofs.Solver.{Expr, var, zer, one, sum, product, minus, same_by, eval}
use Rattle.law.proofs.Written.{written, written_with_half, vector, matrix, of_vector, of_matrix}
use Rattle.law.proofs.Written.{agree, solve_value, solve_value_by, solve_vector, solve_matrix}
use Rattle.law.proofs.Exponential.{ExactDivisor, log_by-exp_by, exp_by-log_by, divide-scale}
use Rattle.law.proofs.ClosedForms.{cancel, squares}

-- ---- formulas in w, its sine s and cosine c, p, which is 1/(w s), and f, which is ½
module _ {A : Type 0} (o : Arithmetic A) where
  infixl 60 ◌⊕◌ ◌⊖◌
  infixl 70 ◌⊗◌
  open o use {one as 𝟙, add as ◌⊕◌, sub as ◌⊖◌, mul as ◌⊗◌}

  -- 1/w² and 1/w³
  abbrev over_square : A → A → A
  over_square s p = p ⊗ s ⊗ (p ⊗ s)

  abbrev over_cube : A → A → A
  over_cube s p = over_square s p ⊗ (p ⊗ s)

  -- the coefficients of the left Jacobian and of its inverse
  abbrev coefficient_a : A → A → A → A
  coefficient_a s c p = (𝟙 ⊖ c) ⊗ over_square s p

  abbrev coefficient_b : A → A → A → A
  coefficient_b w s p = (w ⊖ s) ⊗ over_cube s p

  abbrev coefficient_k : A → A → A → A → A
  coefficient_k s c p f = 𝟙 ⊗ over_square s p ⊖ (𝟙 ⊕ c) ⊗ (f ⊗ p)

  -- what the product of the two has beside I, times hat θ and times (hat θ)², where t = |θ|²
  abbrev first_rest : A → A → A → A → A → A
  first_rest t f a b k = a ⊖ f ⊖ t ⊗ (a ⊗ k ⊖ f ⊗ b)

  abbrev second_rest : A → A → A → A → A → A
  second_rest t f a b k = b ⊕ k ⊖ f ⊗ a ⊖ t ⊗ (b ⊗ k)

-- on expressions
infixl 60 ◌+◌ ◌-◌
infixl 70 ◌·◌
abbrev ◌+◌ : Expr → Expr → Expr
a + b = sum a b

abbrev ◌-◌ : Expr → Expr → Expr
a - b = sum a (minus b)

abbrev ◌·◌ : Expr → Expr → Expr
a · b = product a b

module _ {A : Type 0} (𝓔 : Exact A) where
  abbrev o : Arithmetic A
  o = exact 𝓔

  abbrev 𝓡 : Ring A
  𝓡 = 𝓔.ring

  infixl 60 ◌⊕◌ ◌⊖◌
  infixl 70 ◌⊗◌ ◌⊘◌
  abbrev ◌⊕◌ : A → A → A
  a ⊕ b = o.add a b

  abbrev ◌⊖◌ : A → A → A
  a ⊖ b = o.sub a b

  abbrev ◌⊗◌ : A → A → A
  a ⊗ b = o.mul a b

  abbrev ◌⊘◌ : A → A → A
  a ⊘ b = o.div a b

  -- ---- the products of the two, whatever the coefficients and ½ are
  -- Jl Jl⁻¹ = (I + e₁·hat θ) + (e₂·hat θ)·hat θ
  pub jacobian-inverse : (a b k : A) (θ : Vector A)
      → let t = Vector.norm_squared o θ in
      Matrix.mul o (left_jacobian_by o a b θ) (left_jacobian_inv_by o k θ)
      ≡ left_jacobian_by o (first_rest o t (Series.half o) a b k) (second_rest o t (Series.half o) a b k) θ
  unfolding Vector.norm_squared Vector.add Vector.sub Vector.scale Matrix.add Matrix.sub Matrix.scale Matrix.mul Matrix.row_by Matrix.identity Matrix.hat Series.half Series.minus_hat Series.left_jacobian_inv left_jacobian_by left_jacobian_inv_by agree eval
  jacobian-inverse a b k θ =
      let m = written_with_half 3 in
      let t = Vector.norm_squared m (vector 0) in
      solve_matrix 𝓡 (of_vector θ (Series.half o ∷ a ∷ b ∷ k ∷ []))
      (Matrix.mul m (left_jacobian_by m (var 4) (var 5) (vector 0)) (left_jacobian_inv_by m (var 6) (vector 0)))
      (left_jacobian_by m (first_rest m t (var 3) (var 4) (var 5) (var 6)) (second_rest m t (var 3) (var 4) (var 5) (var 6)) (vector 0))
      tt

  -- and Jl⁻¹ Jl is the same
  pub inverse-jacobian : (a b k : A) (θ : Vector A)
      → let t = Vector.norm_squared o θ in
      Matrix.mul o (left_jacobian_inv_by o k θ) (left_jacobian_by o a b θ)
      ≡ left_jacobian_by o (first_rest o t (Series.half o) a b k) (second_rest o t (Series.half o) a b k) θ
  unfolding Vector.norm_squared Vector.add Vector.sub Vector.scale Matrix.add Matrix.sub Matrix.scale Matrix.mul Matrix.row_by Matrix.identity Matrix.hat Series.half Series.minus_hat Series.left_jacobian_inv left_jacobian_by left_jacobian_inv_by agree eval
  inverse-jacobian a b k θ =
      let m = written_with_half 3 in
      let t = Vector.norm_squared m (vector 0) in
      solve_matrix 𝓡 (of_vector θ (Series.half o ∷ a ∷ b ∷ k ∷ []))
      (Matrix.mul m (left_jacobian_inv_by m (var 6) (vector 0)) (left_jacobian_by m (var 4) (var 5) (vector 0)))
      (left_jacobian_by m (first_rest m t (var 3) (var 4) (var 5) (var 6)) (second_rest m t (var 3) (var 4) (var 5) (var 6)) (vector 0))
      tt

  -- with nothing beside I it is I
  nothing-left : (θ : Vector A) → left_jacobian_by o o.zero o.zero θ ≡ Matrix.identity o
  unfolding Vector.add Vector.scale Matrix.add Matrix.scale Matrix.mul Matrix.row_by Matrix.identity Matrix.hat left_jacobian_by agree eval
  nothing-left θ = let m = written in solve_matrix 𝓡 (of_vector θ []) (left_jacobian_by m m.zero m.zero (vector 0)) (Matrix.identity m) tt

  -- where division by k is exact, it is multiplication by its inverse l
  by-inverse : (k l a : A) → ExactDivisor 𝓔 k → k ⊗ l ≡ o.one → a ⊘ k ≡ a ⊗ l
  unfolding same_by eval
  by-inverse k l a h e =
      cancel 𝓔 k (a ⊘ k) (a ⊗ l) h
      (h a ∙ sym (solve_value_by 𝓡 (k ∷ l ∷ a ∷ []) (var 0 · var 1) one e (var 2) (var 2 · var 1 · var 0) (var 2) tt))

  -- ---- the closed forms: w is the angle of θ, and division by 2, w², w²·w and (2·w)·sin w is exact
  pub record ExactAngle (w : Angle A) (θ : Vector A) : Type 0 where
    pub norm : w.squared ≡ Vector.norm_squared o θ
    pub square : w.angle ⊗ w.angle ≡ w.squared
    pub circle : w.cosine ⊗ w.cosine ⊕ w.sine ⊗ w.sine ≡ o.one
    pub by-two : ExactDivisor 𝓔 o.two
    pub by-square : ExactDivisor 𝓔 w.squared
    pub by-cube : ExactDivisor 𝓔 (w.squared ⊗ w.angle)
    pub by-double : ExactDivisor 𝓔 (o.two ⊗ w.angle ⊗ w.sine)

  module _ (v : Angle A) (θ : Vector A) (h : ExactAngle v θ) where
    -- ---- w, s, c, p and f as unknowns, the coefficients, and p w s, which is 1
    abbrev w : Expr
    w = var 0

    abbrev s : Expr
    s = var 1

    abbrev c : Expr
    c = var 2

    abbrev p : Expr
    p = var 3

    abbrev f : Expr
    f = var 4

    abbrev a : Expr
    a = coefficient_a written s c p

    abbrev b : Expr
    b = coefficient_b written w s p

    abbrev k : Expr
    k = coefficient_k written s c p f

    abbrev x : Expr
    x = p · w · s

    -- ---- and their values; d is the divisor (2·w)·s
    abbrev d′ : A
    d′ = o.two ⊗ v.angle ⊗ v.sine

    abbrev p′ : A
    p′ = o.one ⊘ d′ ⊗ o.two

    abbrev f′ : A
    f′ = Series.half o

    abbrev a′ : A
    a′ = coefficient_a o v.sine v.cosine p′

    abbrev b′ : A
    b′ = coefficient_b o v.angle v.sine p′

    abbrev k′ : A
    k′ = coefficient_k o v.sine v.cosine p′ f′

    abbrev xs : List A
    xs = v.angle ∷ v.sine ∷ v.cosine ∷ p′ ∷ f′ ∷ []

    -- p w s = 1 and ½·2 = 1
    inverse : p′ ⊗ v.angle ⊗ v.sine ≡ o.one
    unfolding agree eval
    inverse =
        solve_value 𝓡 (v.angle ∷ v.sine ∷ o.one ⊘ d′ ∷ []) (var 2 · (one + one) · var 0 · var 1) (var 2 · ((one + one) · var 0 · var 1)) tt
        ∙ h.by-double o.one

    half : f′ ⊗ o.two ≡ o.one
    unfolding Series.half
    half = h.by-two o.one

    -- division by w², w²·w and (2·w)·s
    by-square-is : (e : A) → e ⊘ v.squared ≡ e ⊗ over_square o v.sine p′
    unfolding same_by eval
    by-square-is e =
        by-inverse v.squared (over_square o v.sine p′) e h.by-square
        (ap (λ t. t ⊗ over_square o v.sine p′) (sym h.square)
        ∙ solve_value_by 𝓡 xs x one inverse (x + one) (w · w · over_square written s p) one tt)

    by-cube-is : (e : A) → e ⊘ (v.squared ⊗ v.angle) ≡ e ⊗ over_cube o v.sine p′
    unfolding same_by eval
    by-cube-is e =
        by-inverse (v.squared ⊗ v.angle) (over_cube o v.sine p′) e h.by-cube
        (ap (λ t. t ⊗ v.angle ⊗ over_cube o v.sine p′) (sym h.square)
        ∙ solve_value_by 𝓡 xs x one inverse (x · x + x + one) (w · w · w · over_cube written s p) one tt)

    by-double-is : (e : A) → e ⊘ d′ ≡ e ⊗ (f′ ⊗ p′)
    unfolding same_by eval
    by-double-is e =
        by-inverse d′ (f′ ⊗ p′) e h.by-double
        (solve_value_by 𝓡 xs x one inverse (f · (one + one)) ((one + one) · w · s · (f · p)) (f · (one + one)) tt ∙ half)

    left_jacobian-is : left_jacobian o v θ ≡ left_jacobian_by o a′ b′ θ
    unfolding left_jacobian
    left_jacobian-is = ap₂ (λ d e. left_jacobian_by o d e θ) (by-square-is (o.one ⊖ v.cosine)) (by-cube-is (v.angle ⊖ v.sine))

    left_jacobian_inv-is : left_jacobian_inv o v θ ≡ left_jacobian_inv_by o k′ θ
    unfolding left_jacobian_inv
    left_jacobian_inv-is = ap₂ (λ d e. left_jacobian_inv_by o (d ⊖ e) θ) (by-square-is o.one) (by-double-is (o.one ⊕ v.cosine))

    -- nothing is left: a multiple of p w s - 1, and one of c² + s² - 1
    first-none : first_rest o (v.angle ⊗ v.angle) f′ a′ b′ k′ ≡ o.zero
    unfolding same_by eval
    first-none =
        let rest = minus (f · p) · (c · c + s · s - one) in
        solve_value_by 𝓡 xs x one inverse
        ((x + one) · (f · p · (one - c · c - s · s) - (one - c) · over_square written s p) + f · (x · x + x + one))
        (first_rest written (w · w) f a b k) rest tt
        ∙ solve_value_by 𝓡 xs (c · c + s · s) one h.circle (minus (f · p)) rest zer tt

    -- and one of ½·2 - 1
    second-none : second_rest o (v.angle ⊗ v.angle) f′ a′ b′ k′ ≡ o.zero
    unfolding same_by eval
    second-none =
        let j = over_square written s p in
        let rest = minus j · (f · (one + one) - one) in
        solve_value_by 𝓡 xs x one inverse
        ((one + c) · f · p · (x · x + x + one - p · s · s · (x + one)) + j · (x + one) · (p · s · s - x))
        (second_rest written (w · w) f a b k) rest tt
        ∙ solve_value_by 𝓡 xs (f · (one + one)) one half (minus j) rest zer tt

    rests-none : let t = Vector.norm_squared o θ in
        left_jacobian_by o (first_rest o t f′ a′ b′ k′) (second_rest o t f′ a′ b′ k′) θ ≡ Matrix.identity o
    rests-none =
        ap (λ t. left_jacobian_by o (first_rest o t f′ a′ b′ k′) (second_rest o t f′ a′ b′ k′) θ) (sym (h.square ∙ h.norm))
        ∙ ap₂ (λ d e. left_jacobian_by o d e θ) first-none second-none
        ∙ nothing-left θ

    -- Jl Jl⁻¹ = I
    pub jacobian-undone : Matrix.mul o (left_jacobian o v θ) (left_jacobian_inv o v θ) ≡ Matrix.identity o
    jacobian-undone = ap₂ (Matrix.mul o) left_jacobian-is left_jacobian_inv-is ∙ jacobian-inverse a′ b′ k′ θ ∙ rests-none

    -- Jl⁻¹ Jl = I
    pub inverse-undone : Matrix.mul o (left_jacobian_inv o v θ) (left_jacobian o v θ) ≡ Matrix.identity o
    inverse-undone = ap₂ (Matrix.mul o) left_jacobian_inv-is left_jacobian-is ∙ inverse-jacobian a′ b′ k′ θ ∙ rests-none

  -- ---- log and exp of SGal(3) by the two, with one m and one θ for both: nothing is lacking
  abbrev nothing : Matrix A
  nothing = Matrix.scale o (Matrix.identity o) o.zero

  less-nothing : Matrix.identity o ≡ Matrix.sub o (Matrix.identity o) nothing
  unfolding Vector.sub Vector.scale Matrix.sub Matrix.scale Matrix.identity agree eval
  less-nothing =
      let m = written in
      solve_matrix 𝓡 [] (Matrix.identity m) (Matrix.sub m (Matrix.identity m) (Matrix.scale m (Matrix.identity m) m.zero)) tt

  velocity-returned : (u : Vector A) → Vector.sub o u (Matrix.apply o nothing u) ≡ u
  unfolding Vector.dot Vector.sub Vector.scale Matrix.apply Matrix.scale Matrix.identity agree eval
  velocity-returned u =
      let r = written in
      let n = Matrix.scale r (Matrix.identity r) r.zero in
      solve_vector 𝓡 (of_vector u []) (Vector.sub r (vector 0) (Matrix.apply r n (vector 0))) (vector 0) tt

  -- ρ after exp and log, and t after log and exp, as Exponential has them
  rho-returned : (i m : Matrix A) (u v : Vector A) (s : A)
      → let lacking = Matrix.apply o i (Matrix.apply o m (Matrix.apply o nothing v)) in
      Vector.add o (Vector.sub o u (Matrix.apply o nothing u)) (Vector.scale o lacking s) ≡ u
  unfolding Vector.dot Vector.add Vector.sub Vector.scale Matrix.apply Matrix.scale Matrix.identity agree eval
  rho-returned i m u v s =
      let r = written in
      let n = Matrix.scale r (Matrix.identity r) r.zero in
      solve_vector 𝓡 (of_matrix i (of_matrix m (of_vector u (of_vector v (s ∷ [])))))
      (Vector.add r (Vector.sub r (vector 18) (Matrix.apply r n (vector 18)))
      (Vector.scale r (Matrix.apply r (matrix 0) (Matrix.apply r (matrix 9) (Matrix.apply r n (vector 21)))) (var 24)))
      (vector 18) tt

  translation-returned : (u v : Vector A) (s : A)
      → Vector.add o (Vector.sub o u (Matrix.apply o nothing u)) (Vector.scale o (Matrix.apply o nothing v) s) ≡ u
  unfolding Vector.dot Vector.add Vector.sub Vector.scale Matrix.apply Matrix.scale Matrix.identity agree eval
  translation-returned u v s =
      let r = written in
      let n = Matrix.scale r (Matrix.identity r) r.zero in
      solve_vector 𝓡 (of_vector u (of_vector v (s ∷ [])))
      (Vector.add r (Vector.sub r (vector 0) (Matrix.apply r n (vector 0))) (Vector.scale r (Matrix.apply r n (vector 3)) (var 6))) (vector 0) tt

  -- log after exp, with the angle known
  pub log-exp-closed : (w : Angle A) (m : Matrix A) (q : Quaternion A) (ξ : Tangent A) → ExactAngle w ξ.theta
      → GalileanSeries.log_by o (left_jacobian_inv o w ξ.theta) m ξ.theta (GalileanSeries.exp_by o (left_jacobian o w ξ.theta) m q ξ) ≡ ξ
  log-exp-closed w m q ξ h =
      let i = left_jacobian_inv o w ξ.theta in
      let j = left_jacobian o w ξ.theta in
      log_by-exp_by 𝓔 i j nothing m ξ.theta q ξ (inverse-undone w ξ.theta h ∙ less-nothing)
      ∙ ap₂ (λ (r u : Vector A). record { rho = r; nu = u; theta = ξ.theta; s = ξ.s })
      (rho-returned i m ξ.rho ξ.nu ξ.s) (velocity-returned ξ.nu)

  -- exp after log
  pub exp-log-closed : (w : Angle A) (m : Matrix A) (θ : Vector A) (a : Element A) → ExactAngle w θ
      → GalileanSeries.exp_by o (left_jacobian o w θ) m a.rotation (GalileanSeries.log_by o (left_jacobian_inv o w θ) m θ a) ≡ a
  exp-log-closed w m θ a h =
      let i = left_jacobian_inv o w θ in
      let j = left_jacobian o w θ in
      exp_by-log_by 𝓔 i j nothing m θ a.rotation a (jacobian-undone w θ h ∙ less-nothing)
      ∙ ap₂ (λ (t v : Vector A). record { translation = t; rotation = a.rotation; velocity = v; time = a.time })
      (translation-returned a.translation (Matrix.apply o m (Matrix.apply o i a.velocity)) a.time) (velocity-returned a.velocity)

  -- ---- the rotation: n is the angle of h, which is half of θ
  -- (sin n / n)·((2·n) / sin n) = 2
  coefficients : (n : Angle A) → ExactDivisor 𝓔 n.angle → ExactDivisor 𝓔 n.sine
      → n.sine ⊘ n.angle ⊗ log_coefficient o n.angle n.sine ≡ o.two
  unfolding log_coefficient same_by eval
  coefficients n by-angle by-sine =
      let u = n.sine ⊘ n.angle in
      let v = o.two ⊗ n.angle ⊘ n.sine in
      cancel 𝓔 n.angle (u ⊗ v) o.two by-angle
      (solve_value_by 𝓡 (u ∷ v ∷ n.angle ∷ n.sine ∷ []) (var 0 · var 2) (var 3) (by-angle n.sine)
      (var 1) (var 0 · var 1 · var 2) (var 1 · var 3) tt
      ∙ by-sine (o.two ⊗ n.angle))

  scale-scale : (u : Vector A) (k l : A) → Vector.scale o (Vector.scale o u k) l ≡ Vector.scale o u (k ⊗ l)
  unfolding Vector.scale agree eval
  scale-scale u k l =
      let m = written in
      solve_vector 𝓡 (of_vector u (k ∷ l ∷ []))
      (Vector.scale m (Vector.scale m (vector 0) (var 3)) (var 4)) (Vector.scale m (vector 0) (var 3 · var 4)) tt

  -- the squared norm of exp's vector part is sin² n: what log divides by is sin n, where that is positive
  pub exp-sine : (n : Angle A) (h : Vector A)
      → n.angle ⊗ n.angle ≡ Vector.norm_squared o h
      → n.sine ⊘ n.angle ⊗ n.angle ≡ n.sine
      → Vector.norm_squared o (Quaternion.vector o (exp o n h)) ≡ n.sine ⊗ n.sine
  unfolding Vector.norm_squared Vector.scale Quaternion.vector exp exp_by agree eval
  exp-sine n h square quotient =
      let m = written in
      let k = n.sine ⊘ n.angle in
      solve_value 𝓡 (of_vector h (k ∷ []))
      (Vector.norm_squared m (Vector.scale m (vector 0) (var 3))) (var 3 · var 3 · Vector.norm_squared m (vector 0)) tt
      ∙ ap (λ c. k ⊗ k ⊗ c) (sym square)
      ∙ squares 𝓔 k n.angle
      ∙ ap (λ c. c ⊗ c) quotient

  -- log after exp: the angle itself
  pub log-exp-rotation : (n : Angle A) (θ : Vector A) → ExactDivisor 𝓔 o.two → ExactDivisor 𝓔 n.angle → ExactDivisor 𝓔 n.sine
      → let h = Vector.divide o θ o.two in
      Series.log_by o (log_coefficient o n.angle n.sine) (exp o n h) ≡ θ
  unfolding Series.log_by Quaternion.vector Vector.scale exp exp_by
  log-exp-rotation n θ by-two by-angle by-sine =
      let h = Vector.divide o θ o.two in
      scale-scale h (n.sine ⊘ n.angle) (log_coefficient o n.angle n.sine)
      ∙ ap (Vector.scale o h) (coefficients n by-angle by-sine)
      ∙ divide-scale 𝓔 θ o.two by-two

  -- ---- both: log after exp where the angle φ, too, is the log of exp's rotation. By w exp and log find the angle of a vector
  pub log-exp-both : (w : Vector A → Angle A) (n : Angle A) (ξ : Tangent A)
      → ExactAngle (w ξ.theta) ξ.theta → ExactDivisor 𝓔 n.angle → ExactDivisor 𝓔 n.sine
      → let θ = ξ.theta in
      let a = GalileanSeries.exp_by o (left_jacobian o (w θ) θ) (s_nu_coupling o (w θ) θ) (exp o n (Vector.divide o θ o.two)) ξ in
      let φ = Series.log_by o (log_coefficient o n.angle n.sine) a.rotation in
      GalileanSeries.log_by o (left_jacobian_inv o (w φ) φ) (s_nu_coupling o (w φ) φ) φ a ≡ ξ
  unfolding GalileanSeries.exp_by
  log-exp-both w n ξ h by-angle by-sine =
      let θ = ξ.theta in
      let q = exp o n (Vector.divide o θ o.two) in
      let m = s_nu_coupling o (w θ) θ in
      let a = GalileanSeries.exp_by o (left_jacobian o (w θ) θ) m q ξ in
      ap (λ φ. GalileanSeries.log_by o (left_jacobian_inv o (w φ) φ) (s_nu_coupling o (w φ) φ) φ a)
      (log-exp-rotation n θ h.by-two by-angle by-sine)
      ∙ log-exp-closed (w θ) m q ξ h
