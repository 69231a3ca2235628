-- Horner's scheme at coefficients near to 1 / k!: how far the rounded sum is from the exact one, and how large it is. Assumes nothing.
use mathlib.Core.Path.{◌≡◌, refl, sym}
use mathlib.Core.Bool.{Bool, false, not, ◌&&◌}
use mathlib.Core.List.{List, [], ◌∷◌}
use Prim.Native.Nat.{ℕ, ◌+◌, ◌*◌, ◌/◌, ◌^◌, ◌≤◌}
use native.Mathlib.Nat.{mul-one}
use native.Mathlib.Omega.{arith}
use lib.Dec.{T, leb, leb→le}
use lib.Ieee.{Float, binary64, fits}
use lib.Ieee.Bits.{is_false}
use lib.Ieee.Fits.{and_l, and_r}
use lib.Ieee.Scale.{finite}
use Rattle.float.specs.Exact.{count, negative}
use Rattle.rounding.specs.Number.{one, plus_part, minus_part}
use Rattle.rounding.specs.Error.{Within}
use Rattle.rounding.proofs.Laws.{plus-parts}
use Rattle.rounding.proofs.Close.{error_unit, size_unit, Close, Factor, product_error, product_size, sum_error, sum_size, product_limit, sum_limit, close-mul, close-add, close-scale, close-same}
use Rattle.trigonometry.specs.Taylor.{factorial}
use Rattle.trigonometry.specs.Sines.{horner}

-- ---- 1 / k! is inverse k / 31!, and the nearest binary64 is at most `bound k` units in size, and in its distance
unfoldable pub inverse : ℕ → ℕ
inverse k = factorial 31 / factorial k

unfoldable pub bound : ℕ → ℕ
bound k = (2 ^ 100 + 2 ^ 47) / factorial k + 1

-- this as a test, which computes for a constant
abbrev near_inverse : Float → ℕ → Bool
near_inverse c k =
    fits binary64 c
    && (finite c
    && (not (negative c)
    && (leb (count c * factorial 31) (inverse k * one + bound k * (error_unit * factorial 31))
    && (leb (inverse k * one) (count c * factorial 31 + bound k * (error_unit * factorial 31)) && leb (count c) (bound k * size_unit)))))

coefficient : (c : Float) (k : ℕ) → T (near_inverse c k) → Close (factorial 31) (inverse k) 0 (bound k) (bound k) c
coefficient c k t =
    let F = factorial 31 in
    let b₁ = fits binary64 c in
    let b₂ = finite c in
    let b₃ = not (negative c) in
    let b₄ = leb (count c * F) (inverse k * one + bound k * (error_unit * F)) in
    let b₅ = leb (inverse k * one) (count c * F + bound k * (error_unit * F)) in
    let t₂ = and_r b₁ _ t in
    let t₃ = and_r b₂ _ t₂ in
    let t₄ = and_r b₃ _ t₃ in
    let t₅ = and_r b₄ _ t₄ in
    let p = plus-parts c (is_false (negative c) (and_l b₃ _ t₃)) in
    record {
      number = record { is_binary64 = and_l b₁ _ t; is_finite = and_l b₂ _ t₂ };
      near = in-parts (plus_part c) (minus_part c) (count c) F (inverse k) one (bound k * (error_unit * F)) p.0 p.1 (leb→le _ _ (and_l b₄ _ t₄)) (leb→le _ _ (and_l b₅ _ t₅));
      size = leb→le _ _ (and_r b₅ _ t₅);
    }
  where
    in-parts : (p l c F κ o E : ℕ) → p ≡ c → l ≡ 0 → c * F ≤ κ * o + E → κ * o ≤ c * F + E → Within (p * F + 0 * o) (l * F + κ * o) E
    in-parts p l c F κ o E e f h i = rw (e, f) (record { over = omega arith; under = omega arith })

-- ---- the scheme at W / D with the coefficients 1 / k! for the k of ks, and the last one 1 / t!: the exact sum is numerator / (31! * power)
unfoldable pub power : ℕ → List ℕ → ℕ
power D [] = 1
power D (k ∷ ks) = D * power D ks

unfoldable pub numerator : ℕ → ℕ → ℕ → List ℕ → ℕ
unfolding power
numerator W D t [] = inverse t
numerator W D t (k ∷ ks) = inverse k * (D * power D ks) + W * numerator W D t ks

-- the units that bound the rounded sum's size, and its error, where those of w are mw and ew, and W / D is at most X
unfoldable pub size_of : ℕ → ℕ → List ℕ → ℕ
size_of mw t [] = bound t
size_of mw t (k ∷ ks) = sum_size (bound k) (product_size mw (size_of mw t ks))

unfoldable pub error_of : ℕ → ℕ → ℕ → ℕ → List ℕ → ℕ
unfolding size_of
error_of ew mw X t [] = bound t
error_of ew mw X t (k ∷ ks) = sum_error (bound k) (bound k) (product_error ew mw X (error_of ew mw X t ks) (size_of mw t ks)) (product_size mw (size_of mw t ks))

-- each coefficient is near to its 1 / k!, and each product and sum is finite
abbrev pub coefficients_near : ℕ → ℕ → List ℕ → Float → List Float → Bool
coefficients_near mw t [] last [] = near_inverse last t
coefficients_near mw t (k ∷ ks) last (c ∷ cs) =
    near_inverse c k
    && (leb (mw * size_of mw t ks) product_limit && (leb (bound k + product_size mw (size_of mw t ks)) sum_limit && coefficients_near mw t ks last cs))
coefficients_near mw t [] last (c ∷ cs) = false
coefficients_near mw t (k ∷ ks) last [] = false

module _ {W D X ew mw : ℕ} {w : Float} (A : Factor D W X ew mw w) (t : ℕ) (last : Float) where
  pub horner-close : (ks : List ℕ) (cs : List Float) → T (coefficients_near mw t ks last cs)
      → Close (factorial 31 * power D ks) (numerator W D t ks) 0 (error_of ew mw X t ks) (size_of mw t ks) (horner w last cs)
  unfolding horner power numerator size_of error_of
  horner-close [] [] h = close-same (sym (mul-one (factorial 31))) refl refl (coefficient last t h)
  horner-close [] (c ∷ cs) h = absurd h
  horner-close (k ∷ ks) [] h = absurd h
  horner-close (k ∷ ks) (c ∷ cs) h =
      let s = size_of mw t ks in
      let b₁ = near_inverse c k in
      let b₂ = leb (mw * s) product_limit in
      let b₃ = leb (bound k + product_size mw s) sum_limit in
      let h₂ = and_r b₁ _ h in
      let h₃ = and_r b₂ _ h₂ in
      let p = close-mul A (leb→le _ _ (and_l b₂ _ h₂)) (horner-close ks cs (and_r b₃ _ h₃)) in
      close-same refl refl (none (D * power D ks) W)
      (close-add (leb→le _ _ (and_l b₃ _ h₃)) (close-scale (D * power D ks) (coefficient c k (and_l b₁ _ h))) (close-same (turned (factorial 31) D (power D ks)) refl refl p))
    where
      turned : (F D N : ℕ) → D * (F * N) ≡ F * (D * N)
      turned F D N = omega arith

      none : (a W : ℕ) → 0 * a + W * 0 ≡ 0
      none a W = omega arith
