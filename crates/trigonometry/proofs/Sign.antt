-- Up to 2 the Taylor sum of sine is not below 0: each term that is subtracted is at most the one before it. Up to 3 it is at least 1 / 33 of its argument: so
-- much is left of the first four terms, and from the 9th power on each term that is subtracted is at most the one before it again. Assumes nothing.
use mathlib.Core.Path.{◌≡◌, refl, ap, ◌∙◌}
use mathlib.Core.Bool.{Bool, true, ◌&&◌}
use mathlib.Core.List.{List, [], ◌∷◌}
use Prim.Native.Nat.{ℕ, ◌+◌, ◌-◌, ◌*◌, ◌/◌, ◌^◌, ◌≤◌}
use native.Mathlib.Nat.{le_refl, mul-le-mul, mul-le-mul_left, mul-le-mul_right, le_of_mul-le-mul_left, add-le-add, one-mul, pow-zero, pow-suc}
use native.Mathlib.Omega.{arith}
use lib.Dec.{T, leb, leb→le, lit<}
use lib.Pow.{pow-add}
use lib.Ieee.Fits.{and_l, and_r}
use Rattle.trigonometry.specs.Taylor.{factorial}
use Rattle.trigonometry.proofs.Terms.{total, sine_added, sine_subtracted}

-- ---- up to c each term is at most the one two powers before it
abbrev later : List ℕ → List ℕ
later [] = []
later (k ∷ ks) = (k + 2) ∷ later ks

abbrev falls : ℕ → List ℕ → Bool
falls c [] = true
falls c (k ∷ ks) = leb (k + 2) 31 && (leb (c * c * (factorial 31 / factorial (k + 2))) (factorial 31 / factorial k) && falls c ks)

first-power : (n : ℕ) → n ^ 1 ≡ n
first-power n = pow-suc n 0 ∙ ap (λ (x : ℕ). x * n) (pow-zero n) ∙ one-mul n

squared : (n : ℕ) → n ^ 2 ≡ n * n
squared n = pow-suc n 1 ∙ ap (λ (x : ℕ). x * n) (first-power n)

pair : (c n d k F G : ℕ) → n ≤ c * d → k + 2 ≤ 31 → c * c * G ≤ F → n ^ (k + 2) * (d ^ (31 - (k + 2)) * G) ≤ n ^ k * (d ^ (31 - k) * F)
pair c n d k F G h l g =
    let two-less : 31 - k ≡ 2 + (31 - (k + 2)) = omega arith in
    rw (pow-add n k 2, squared n, two-less, pow-add d 2 (31 - (k + 2)), squared d)
    (go (n ^ k) n d (d ^ (31 - (k + 2))) F G (mul-le-mul h h) g)
  where
    go : (A n d Y F G : ℕ) → n * n ≤ c * d * (c * d) → c * c * G ≤ F → A * (n * n) * (Y * G) ≤ A * (d * d * Y * F)
    go A n d Y F G a b = omega (arith, mul-le-mul_left A (mul-le-mul_right (Y * G) a), mul-le-mul_left (A * (d * d * Y)) b)

paired : (c n d : ℕ) (ks : List ℕ) → n ≤ c * d → T (falls c ks) → total n d (later ks) ≤ total n d ks
unfolding total
paired c n d [] h t = le_refl 0
paired c n d (k ∷ ks) h t =
    let F = factorial 31 / factorial k in
    let G = factorial 31 / factorial (k + 2) in
    let u = and_r (leb (k + 2) 31) _ t in
    add-le-add (pair c n d k F G h (leb→le _ _ (and_l (leb (k + 2) 31) _ t)) (leb→le _ _ (and_l (leb (c * c * G) F) (falls c ks) u)))
    (paired c n d ks h (and_r (leb (c * c * G) F) (falls c ks) u))

pub up-to-2 : (n d : ℕ) → n ≤ 2 * d → total n d sine_subtracted ≤ total n d sine_added
unfolding factorial
up-to-2 n d h = paired 2 n d sine_added h tt

-- ---- up to 3: the first four terms are x / 5040 times 5040 - 840 x² + 42 x⁴ - x⁶, which is 153 at 3 and more below it. u / v is x²
cubic : (u v : ℕ) → u ≤ 9 * v → 33 * (840 * (u * v * v) + u * u * u) + 5040 * (v * v * v) ≤ 33 * (5040 * (v * v * v) + 42 * (u * u * v))
cubic u v h = le_of_mul-le-mul_left {k = 729} (omega (arith, spread u (9 * v - u) (9 * v) (omega arith))) (lit< tt)
  where
    -- in w, which is 9 v, and e, by which u is below it, no term is negative
    spread : (u e w : ℕ) → w ≡ u + e → 33 * (7560 * (u * w * w) + 729 * (u * u * u)) + 5040 * (w * w * w) ≤ 33 * (5040 * (w * w * w) + 3402 * (u * u * w))
    spread u e w i = rw i (omega arith)

-- Y is d ^ 24, F is 31! / 5040; r and s are the terms from the 9th power on, those added and those subtracted
first-four : (n u v Y F r s : ℕ) → u ≤ 9 * v → s ≤ r
    → n * (Y * v * v * v * (5040 * F)) + 33 * (n * u * (Y * v * v * (840 * F)) + (n * u * u * u * (Y * F) + s))
    ≤ 33 * (n * (Y * v * v * v * (5040 * F)) + (n * u * u * (Y * v * (42 * F)) + r))
first-four n u v Y F r s h k = omega (arith, k, mul-le-mul_left (n * (Y * F)) (cubic u v h))

abbrev from_9 : List ℕ
from_9 = 9 ∷ 13 ∷ 17 ∷ 21 ∷ 25 ∷ 29 ∷ []

-- at x = n / d, times 33 and the sums' denominator: x is at most 33 times the sum
pub up-to-3 : (n d : ℕ) → n ≤ 3 * d → n * (d ^ 30 * factorial 31) + 33 * total n d sine_subtracted ≤ 33 * total n d sine_added
unfolding total factorial
up-to-3 n d h =
    let n₃ : n ^ 3 ≡ n * (n * n) = up n 1 n (first-power n) in
    let n₅ : n ^ 5 ≡ n * (n * n) * (n * n) = up n 3 (n * (n * n)) n₃ in
    let n₇ : n ^ 7 ≡ n * (n * n) * (n * n) * (n * n) = up n 5 (n * (n * n) * (n * n)) n₅ in
    let d₂₆ : d ^ 26 ≡ d ^ 24 * (d * d) = up d 24 (d ^ 24) refl in
    let d₂₈ : d ^ 28 ≡ d ^ 24 * (d * d) * (d * d) = up d 26 (d ^ 24 * (d * d)) d₂₆ in
    let d₃₀ : d ^ 30 ≡ d ^ 24 * (d * d) * (d * d) * (d * d) = up d 28 (d ^ 24 * (d * d) * (d * d)) d₂₈ in
    rw (first-power n, n₃, n₅, n₇, d₂₆, d₂₈, d₃₀)
    (first-four n (n * n) (d * d) (d ^ 24) (factorial 31 / 5040) (total n d from_9) (total n d (later from_9)) (ninefold n d (mul-le-mul h h))
    (paired 3 n d from_9 h tt))
  where
    up : (n k p : ℕ) → n ^ k ≡ p → n ^ (k + 2) ≡ p * (n * n)
    up n k p e = rw (pow-add n k 2, squared n, e) refl

    ninefold : (n d : ℕ) → n * n ≤ 3 * d * (3 * d) → n * n ≤ 9 * (d * d)
    ninefold n d h = omega arith
