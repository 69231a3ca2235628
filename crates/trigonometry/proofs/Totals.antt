-- The exact polynomials' numerators and denominators are those of the Taylor sums. Assumes nothing.
use mathlib.Core.Path.{◌≡◌, refl, sym, ap, ap₂, ◌∙◌}
use mathlib.Core.Bool.{Bool, true, ◌&&◌}
use mathlib.Core.List.{List, [], ◌∷◌, ◌++◌}
use Prim.Native.Nat.{ℕ, ◌+◌, ◌-◌, ◌*◌, ◌^◌}
use native.Mathlib.Nat.{add-zero, mul-one, one-mul, pow-suc, pow-zero, add-mul}
use native.Mathlib.Omega.{arith}
use lib.Dec.{T, eqb, eqb→eq}
use lib.Pow.{pow-add}
use lib.Ieee.Fits.{and_l, and_r}
use Rattle.trigonometry.specs.Taylor.{factorial, denominator}
use Rattle.trigonometry.proofs.Terms.{total, sine_added, sine_subtracted, cosine_added, cosine_subtracted}
use Rattle.trigonometry.proofs.HornerError.{inverse, power, numerator}
use Rattle.trigonometry.proofs.Polynomials.{sine_exponents, cosine_exponents, minus_sum, plus_sum, whole}

-- ---- Horner's scheme in the fourth powers W and D of n and d: exponents four apart
abbrev first : ℕ → List ℕ → ℕ
first t [] = t
first t (k ∷ ks) = k

abbrev spaced : ℕ → List ℕ → Bool
spaced t [] = true
spaced t (k ∷ ks) = eqb (k + 4) (first t ks) && (eqb (31 - first t ks + 4) (31 - k) && spaced t ks)

module _ (n d W D t : ℕ) (w : W ≡ n ^ 4) (h : D ≡ d ^ 4) where
  power-is : (ks : List ℕ) → T (spaced t ks) → d ^ (31 - t) * power D ks ≡ d ^ (31 - first t ks)
  unfolding power
  power-is [] s = mul-one (d ^ (31 - t))
  power-is (k ∷ ks) s =
      let b₁ = eqb (k + 4) (first t ks) in
      let b₂ = eqb (31 - first t ks + 4) (31 - k) in
      let s₂ = and_r b₁ _ s in
      four (d ^ (31 - t)) (power D ks) D (d ^ (31 - first t ks)) (d ^ 4) h (power-is ks (and_r b₂ _ s₂)) ∙ sym (pow-add d (31 - first t ks) 4) ∙ ap (λ (x : ℕ). d ^ x) (eqb→eq (31 - first t ks + 4) (31 - k) (and_l b₂ _ s₂))
    where
      four : (a b D e g : ℕ) → D ≡ g → a * b ≡ e → a * (D * b) ≡ e * g
      four a b D e g h i = rw (h, ← i) (omega arith)

  numerator-is : (ks : List ℕ) → T (spaced t ks) → n ^ first t ks * (d ^ (31 - t) * numerator W D t ks) ≡ total n d (ks ++ t ∷ [])
  unfolding power numerator inverse total
  numerator-is [] s = sym (add-zero _)
  numerator-is (k ∷ ks) s =
      let b₁ = eqb (k + 4) (first t ks) in
      let b₂ = eqb (31 - first t ks + 4) (31 - k) in
      let next : n ^ k * W ≡ n ^ first t ks = ap (λ (x : ℕ). n ^ k * x) w ∙ sym (pow-add n k 4) ∙ ap (λ (x : ℕ). n ^ x) (eqb→eq (k + 4) (first t ks) (and_l b₁ _ s)) in
      spread (n ^ k) (d ^ (31 - t)) (inverse k) (D * power D ks) W (numerator W D t ks)
      ∙ ap₂ ◌+◌ (ap (λ (x : ℕ). n ^ k * (x * inverse k)) (power-is (k ∷ ks) s))
      (ap (λ (x : ℕ). x * (d ^ (31 - t) * numerator W D t ks)) next ∙ numerator-is ks (and_r b₂ _ (and_r b₁ _ s)))
    where
      spread : (a r c g W h : ℕ) → a * (r * (c * g + W * h)) ≡ a * (r * g * c) + a * W * (r * h)
      spread a r c g W h = omega arith

-- ---- small powers
first-power : (n : ℕ) → n ^ 1 ≡ n
first-power n = rw (pow-suc n 0, pow-zero n) (one-mul n)

second-power : (n : ℕ) → n ^ 2 ≡ n * n
second-power n = rw (pow-suc n 1, first-power n) refl

third-power : (n : ℕ) → n ^ 3 ≡ n * (n * n)
third-power n = rw (pow-suc n 2, second-power n) (omega arith)

fourth-power : (n : ℕ) → n * n * (n * n) ≡ n ^ 4
fourth-power n = rw (pow-suc n 3, third-power n) (omega arith)

fifth-power : (n : ℕ) → n ^ 5 ≡ n * (n * n) * (n * n)
fifth-power n = rw (pow-suc n 4, ← fourth-power n) (omega arith)

module _ (n d : ℕ) where
  abbrev W : ℕ
  W = n * n * (n * n)

  abbrev D : ℕ
  D = d * d * (d * d)

  numerators : (t : ℕ) (ks : List ℕ) → T (spaced t ks) → n ^ first t ks * (d ^ (31 - t) * numerator W D t ks) ≡ total n d (ks ++ t ∷ [])
  numerators t = numerator-is n d W D t (fourth-power n) (fourth-power d)

  zeroth-power : (n h : ℕ) → h ≡ n ^ 0 * h
  zeroth-power n h = sym (ap (λ (x : ℕ). x * h) (pow-zero n) ∙ one-mul h)

  -- ---- sine's
  sine-whole : d * d * whole n d sine_exponents ≡ d ^ 30 * factorial 31
  sine-whole =
      let ks = sine_exponents.minus in
      go (d * d) (factorial 31) (power D ks)
      ∙ ap (λ (x : ℕ). x * factorial 31)
      (ap₂ ◌*◌ (zeroth-power d (power D ks) ∙ power-is n d W D 31 (fourth-power n) (fourth-power d) ks tt) (sym (second-power d)) ∙ sym (pow-add d 28 2))
    where
      go : (a F g : ℕ) → a * (F * g) ≡ g * a * F
      go a F g = omega arith

  times-d : d ^ 30 * factorial 31 * d ≡ d ^ 31 * factorial 31
  times-d = rw (pow-suc d 30) (go (d ^ 30) (factorial 31) d)
    where
      go : (a F d : ℕ) → a * F * d ≡ a * d * F
      go a F d = omega arith

  pub sine-denominator : d * (d * d) * whole n d sine_exponents ≡ denominator d
  unfolding denominator
  sine-denominator = go d (d * d) (whole n d sine_exponents) ∙ ap (λ (x : ℕ). x * d) sine-whole ∙ times-d
    where
      go : (d a b : ℕ) → d * a * b ≡ a * b * d
      go d a b = omega arith

  pub sine-minus : n * (n * n) * minus_sum n d sine_exponents ≡ total n d sine_subtracted
  sine-minus = ap₂ ◌*◌ (sym (third-power n)) (zeroth-power d (minus_sum n d sine_exponents)) ∙ numerators 31 sine_exponents.minus tt

  pub sine-plus : let k = sine_exponents in n * (d * d * whole n d k) + n * (n * n) * (n * n * plus_sum n d k * (d * d)) ≡ total n d sine_added
  unfolding total
  sine-plus =
      let k = sine_exponents in
      ap₂ ◌+◌ (ap₂ ◌*◌ (sym (first-power n)) (sine-whole ∙ ap (λ (x : ℕ). d ^ 30 * x) (unfold factorial in refl)))
      (go (n * (n * n)) (n * n) (plus_sum n d k) (d * d) ∙ ap₂ (λ (x y : ℕ). x * (y * plus_sum n d k)) (sym (fifth-power n)) (sym (second-power d)) ∙ numerators 29 k.plus tt)
    where
      go : (a b h g : ℕ) → a * (b * h * g) ≡ a * b * (g * h)
      go a b h g = omega arith

  -- ---- cosine's, each times d
  cosine-whole : d * d * whole n d cosine_exponents * d ≡ d ^ 31 * factorial 31
  cosine-whole =
      let as-many : whole n d cosine_exponents ≡ whole n d sine_exponents = unfold power in refl in
      ap (λ (x : ℕ). d * d * x * d) as-many ∙ ap (λ (x : ℕ). x * d) sine-whole ∙ times-d

  pub cosine-denominator : d * d * whole n d cosine_exponents * d ≡ denominator d
  unfolding denominator
  cosine-denominator = cosine-whole

  pub cosine-minus : n * n * minus_sum n d cosine_exponents * d ≡ total n d cosine_subtracted
  cosine-minus =
      let h = minus_sum n d cosine_exponents in
      go (n * n) h d ∙ ap₂ (λ (x y : ℕ). x * (y * h)) (sym (second-power n)) (sym (first-power d)) ∙ numerators 30 cosine_exponents.minus tt
    where
      go : (a h d : ℕ) → a * h * d ≡ a * (d * h)
      go a h d = omega arith

  pub cosine-plus : let k = cosine_exponents in (d * d * whole n d k + n * n * (n * n * plus_sum n d k * (d * d))) * d ≡ total n d cosine_added
  unfolding total
  cosine-plus =
      let k = cosine_exponents in
      add-mul (d * d * whole n d k) (n * n * (n * n * plus_sum n d k * (d * d))) d
      ∙ ap₂ ◌+◌ (cosine-whole ∙ zeroth-power n (d ^ 31 * factorial 31) ∙ ap (λ (x : ℕ). n ^ 0 * (d ^ 31 * x)) (unfold factorial in refl))
      (go (n * n) (plus_sum n d k) (d * d) d ∙ ap₂ (λ (x y : ℕ). x * (y * plus_sum n d k)) (fourth-power n) (sym (third-power d)) ∙ numerators 28 k.plus tt)
    where
      go : (a h g d : ℕ) → a * (a * h * g) * d ≡ a * a * (d * g * h)
      go a h g d = omega arith
