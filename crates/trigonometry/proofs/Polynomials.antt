-- The rounded sums of sine and cosine at a y from 0 to 4, and the exact ones as polynomials: within 2 ^ -45 of each other. Assumes nothing.
use mathlib.Core.Path.{◌≡◌, refl, sym, ap, ◌∙◌}
use mathlib.Core.Bool.{false}
use mathlib.Core.List.{List, [], ◌∷◌}
use Prim.Native.Nat.{ℕ, ◌+◌, ◌*◌, ◌^◌, ◌≤◌}
use native.Mathlib.Nat.{mul_assoc, zero-mul, one-mul, zero-add}
use native.Mathlib.Omega.{arith}
use lib.Dec.{T, lit≤}
use lib.Ieee.{Float, binary64, of_bits, sub, mul, fits}
use Rattle.float.specs.Exact.{count, negative}
use Rattle.rounding.specs.Number.{Number, one, plus_part, minus_part}
use Rattle.rounding.proofs.Close.{error_unit, size_unit, Close, Factor, factor-self, product_error, product_size, sum_error, sum_size, product_limit, sum_limit, close-mul, close-sub, factor-mul, close-scale, close-same, close-wider}
use Rattle.trigonometry.specs.Taylor.{factorial}
use Rattle.trigonometry.specs.Sines.{horner, sine_minus, sine_minus_last, sine_plus, sine_plus_last, cosine_minus, cosine_minus_last, cosine_plus, cosine_plus_last, sine_of, cosine_of}
use Rattle.trigonometry.proofs.HornerError.{inverse, bound, power, numerator, size_of, error_of, coefficients_near, horner-close}

-- ---- the two sums by Horner's scheme, one less y² times the other: their exponents and their coefficients, the last apart
pub record Exponents : Type 0 where
  pub minus : List ℕ
  pub minus_last : ℕ
  pub plus : List ℕ
  pub plus_last : ℕ

abbrev pub sine_exponents : Exponents
sine_exponents = record { minus = 3 ∷ 7 ∷ 11 ∷ 15 ∷ 19 ∷ 23 ∷ 27 ∷ []; minus_last = 31; plus = 5 ∷ 9 ∷ 13 ∷ 17 ∷ 21 ∷ 25 ∷ []; plus_last = 29 }

abbrev pub cosine_exponents : Exponents
cosine_exponents = record { minus = 2 ∷ 6 ∷ 10 ∷ 14 ∷ 18 ∷ 22 ∷ 26 ∷ []; minus_last = 30; plus = 4 ∷ 8 ∷ 12 ∷ 16 ∷ 20 ∷ 24 ∷ []; plus_last = 28 }

record Coefficients : Type 0 where
  minus : List Float
  minus_last : Float
  plus : List Float
  plus_last : Float

abbrev sine_coefficients : Coefficients
sine_coefficients = record { minus = sine_minus; minus_last = sine_minus_last; plus = sine_plus; plus_last = sine_plus_last }

abbrev cosine_coefficients : Coefficients
cosine_coefficients = record { minus = cosine_minus; minus_last = cosine_minus_last; plus = cosine_plus; plus_last = cosine_plus_last }

-- ---- bounds of the sizes and errors, in units: of 1, of y, y², y³ and y⁴, of the difference of the two sums, and of its product with y³ or y²
abbrev size₀ : ℕ
size₀ = 2 ^ 100

abbrev size₁ : ℕ
size₁ = 4 * 2 ^ 100

abbrev size₂ : ℕ
size₂ = product_size size₁ size₁

abbrev size₃ : ℕ
size₃ = product_size size₁ size₂

abbrev size₄ : ℕ
size₄ = product_size size₂ size₂

abbrev error₂ : ℕ
error₂ = product_error 0 size₁ 4 0 size₁

abbrev error₃ : ℕ
error₃ = product_error 0 size₁ 4 error₂ size₂

abbrev error₄ : ℕ
error₄ = product_error error₂ size₂ 16 error₂ size₂

module _ (k : Exponents) where
  abbrev minus_size : ℕ
  minus_size = size_of size₄ k.minus_last k.minus

  abbrev plus_size : ℕ
  plus_size = size_of size₄ k.plus_last k.plus

  abbrev times_size : ℕ
  times_size = product_size size₂ plus_size

  abbrev difference_size : ℕ
  difference_size = sum_size minus_size times_size

  abbrev minus_error : ℕ
  minus_error = error_of error₄ size₄ 256 k.minus_last k.minus

  abbrev plus_error : ℕ
  plus_error = error_of error₄ size₄ 256 k.plus_last k.plus

  abbrev difference_error : ℕ
  difference_error = sum_error minus_error minus_size (product_error error₂ size₂ 16 plus_error plus_size) times_size

abbrev sine_product_size : ℕ
sine_product_size = product_size size₃ (difference_size sine_exponents)

abbrev sine_product_error : ℕ
sine_product_error = product_error error₃ size₃ 64 (difference_error sine_exponents) (difference_size sine_exponents)

abbrev cosine_product_size : ℕ
cosine_product_size = product_size size₂ (difference_size cosine_exponents)

abbrev cosine_product_error : ℕ
cosine_product_error = product_error error₂ size₂ 16 (difference_error cosine_exponents) (difference_size cosine_exponents)

-- ---- what is computed: the coefficients are near to 1 / k!, no operation overflows, and the result is off by at most 2 ^ -45 and at most 32 in size
record Computed (k : Exponents) (c : Coefficients) : Type 0 where
  minus-near : T (coefficients_near size₄ k.minus_last k.minus c.minus_last c.minus)
  plus-near : T (coefficients_near size₄ k.plus_last k.plus c.plus_last c.plus)
  product : size₂ * plus_size k ≤ product_limit
  sum : minus_size k + times_size k ≤ sum_limit
  powers : (D : ℕ) → power D k.minus ≡ D * power D k.plus

sine-computed : Computed sine_exponents sine_coefficients
unfolding of_bits fits count negative one error_unit size_unit product_size sum_size size_of inverse bound factorial power
sine-computed = record { minus-near = tt; plus-near = tt; product = lit≤ tt; sum = lit≤ tt; powers = λ D. refl }

cosine-computed : Computed cosine_exponents cosine_coefficients
unfolding of_bits fits count negative one error_unit size_unit product_size sum_size size_of inverse bound factorial power
cosine-computed = record { minus-near = tt; plus-near = tt; product = lit≤ tt; sum = lit≤ tt; powers = λ D. refl }

record LastStep (k : Exponents) (factor first error size : ℕ) : Type 0 where
  product : factor * difference_size k ≤ product_limit
  sum : first + size ≤ sum_limit
  small-error : sum_error 0 first error size ≤ 2 ^ 108
  small-size : sum_size first size ≤ 2 ^ 105

sine-last : LastStep sine_exponents size₃ size₁ sine_product_error sine_product_size
unfolding product_error product_size sum_error sum_size size_of error_of bound factorial
sine-last = record { product = lit≤ tt; sum = lit≤ tt; small-error = lit≤ tt; small-size = lit≤ tt }

cosine-last : LastStep cosine_exponents size₂ size₀ cosine_product_error cosine_product_size
unfolding product_error product_size sum_error sum_size size_of error_of bound factorial
cosine-last = record { product = lit≤ tt; sum = lit≤ tt; small-error = lit≤ tt; small-size = lit≤ tt }

one-close : Close 1 1 0 0 size₀ (of_bits binary64 0x3ff0_0000_0000_0000)
unfolding of_bits fits count negative one error_unit size_unit plus_part minus_part
one-close = record { number = record { is_binary64 = tt; is_finite = tt }; near = record { over = lit≤ tt; under = lit≤ tt }; size = lit≤ tt }

-- ---- the exact sums at n / d: numerators over 31! * power of d ^ 4, and the common denominator
module _ (n d : ℕ) (k : Exponents) where
  abbrev pub minus_sum : ℕ
  minus_sum = numerator (n * n * (n * n)) (d * d * (d * d)) k.minus_last k.minus

  abbrev pub plus_sum : ℕ
  plus_sum = numerator (n * n * (n * n)) (d * d * (d * d)) k.plus_last k.plus

  abbrev pub whole : ℕ
  whole = factorial 31 * power (d * d * (d * d)) k.minus

-- ---- y, its powers, and the sums
module _ (y : Float) (Y : Number y) (sign : negative y ≡ false) (most : count y ≤ 4 * one) where
  abbrev n : ℕ
  n = count y

  abbrev D : ℕ
  D = one * one

  abbrev y² : Float
  y² = mul binary64 y y

  y-factor : Factor one n 4 0 size₁ y
  y-factor = factor-self Y sign most

  y²-factor : Factor D (n * n) 16 error₂ size₂ y²
  y²-factor = factor-mul (lit≤ tt) y-factor y-factor

  y³-factor : Factor (one * D) (n * (n * n)) 64 error₃ size₃ (mul binary64 y y²)
  y³-factor = factor-mul (unfold product_size in lit≤ tt) y-factor y²-factor

  y⁴-factor : Factor (D * D) (n * n * (n * n)) 256 error₄ size₄ (mul binary64 y² y²)
  y⁴-factor = factor-mul (unfold product_size in lit≤ tt) y²-factor y²-factor

  abbrev difference : Coefficients → Float
  difference c = let w = mul binary64 y² y² in sub binary64 (horner w c.minus_last c.minus) (mul binary64 y² (horner w c.plus_last c.plus))

  difference-close : {k : Exponents} {c : Coefficients} → Computed k c
      → Close (whole n one k) (minus_sum n one k) (n * n * plus_sum n one k * D) (difference_error k) (difference_size k) (difference c)
  difference-close {k} {c} h =
      let F = factorial 31 in
      let a = close-mul y²-factor h.product (horner-close y⁴-factor k.plus_last c.plus_last k.plus c.plus h.plus-near) in
      close-same refl (drop (minus_sum n one k) (n * n) D) (zero-add (n * n * plus_sum n one k * D))
      (close-sub h.sum (horner-close y⁴-factor k.minus_last c.minus_last k.minus c.minus h.minus-near)
      (close-same (evened F D (power (D * D) k.plus) ∙ ap (λ (x : ℕ). F * x) (sym (h.powers (D * D)))) refl refl (close-scale D a)))
    where
      evened : (F D n : ℕ) → D * (F * n) * D ≡ F * (D * D * n)
      evened F D n = omega arith

      drop : (b n d : ℕ) → b + n * 0 * d ≡ b
      drop b n d = omega arith

  pub sine-polynomial : let k = sine_exponents in
      Close (one * D * whole n one k) (n * (D * whole n one k) + n * (n * n) * (n * n * plus_sum n one k * D)) (n * (n * n) * minus_sum n one k) (2 ^ 108) (2 ^ 105) (sine_of y)
  unfolding sine_of
  sine-polynomial =
      let k = sine_exponents in
      let M = n * (n * n) * minus_sum n one k in
      let Q = D * whole n one k in
      close-wider sine-last.small-error sine-last.small-size
      (close-same refl refl (ap (λ (x : ℕ). x + M) (zero-mul Q) ∙ zero-add M)
      (close-sub sine-last.sum (close-same (sym (mul_assoc one D (whole n one k))) refl refl (close-scale Q y-factor.close)) (close-mul y³-factor sine-last.product (difference-close sine-computed))))

  pub cosine-polynomial : let k = cosine_exponents in
      Close (D * whole n one k) (D * whole n one k + n * n * (n * n * plus_sum n one k * D)) (n * n * minus_sum n one k) (2 ^ 108) (2 ^ 105) (cosine_of y)
  unfolding cosine_of
  cosine-polynomial =
      let k = cosine_exponents in
      let P = n * n * (n * n * plus_sum n one k * D) in
      let M = n * n * minus_sum n one k in
      let Q = D * whole n one k in
      close-wider cosine-last.small-error cosine-last.small-size
      (close-same refl (ap (λ (x : ℕ). x + P) (one-mul Q)) (ap (λ (x : ℕ). x + M) (zero-mul Q) ∙ zero-add M)
      (close-sub cosine-last.sum (close-same (one-mul Q) refl refl (close-scale Q one-close)) (close-mul y²-factor cosine-last.product (difference-close cosine-computed))))
