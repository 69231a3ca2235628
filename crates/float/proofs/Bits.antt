-- The square root on bit patterns: of a number above zero (`root-above-zero`), and of what has none (`no-root`). Assumes nothing.
use mathlib.Core.Path.{◌≡◌, refl, sym, ap, ◌∙◌, subst}
use mathlib.Core.Bool.{Bool, true, false, not, cond, true≢false}
use Prim.Native.Nat.{ℕ, zero, suc, ◌+◌, ◌*◌, ◌/◌, ◌%◌, ◌^◌, ◌≤◌, ◌<◌}
use native.Mathlib.Nat.{zero-mul, mul-one, lt_irrefl, lt_of_not-le, mul-pos}
use native.Mathlib.Decide.{dec_le}
use native.Mathlib.Omega.{arith}
use lib.Dec.{T, eqb, leb, le→leb, eqb→eq, not_T}
use lib.Arith.{lt→nleb}
use lib.IntN.{ℤ}
use lib.Pow.{pow_pos}
use lib.Ieee.{Float, nan, inf, fin, binary64, up, down, odd, fits, of_fields, of_bits, to_bits}
use lib.Ieee.Bits.{of_bits-fits, to_bits-of_bits, nan_bits_is, is_true, is_false, cond_no}
use lib.Ieee.Exact.{HasValue, odd_sign}
use lib.Ieee.Fits.{down_pos}
use Rattle.float.specs.Root.{nearest_root, square_root, square_root_bits}
use Rattle.float.specs.Steps.{field_count, pattern_count, Rooted}
use Rattle.float.proofs.Counts.{counted}
use Rattle.float.proofs.Patterns.{bits_are}
use Rattle.float.proofs.Nan.{nan_pattern, not-nan-pattern}

-- ---- the value of a pattern whose exponent's field is not all ones
fields_value : (s : Bool) (f t : ℕ) → f < 2047 → HasValue (of_fields binary64 s f t) s (field_count f t) (2 ^ 1074)
unfolding of_fields
fields_value s zero t h = subst (λ (a : ℕ). HasValue (odd 53 s t 0 1074) s a (2 ^ 1074)) (mul-one t) (odd_sign 53 s t 0 1074)
fields_value s (suc f) t h =
    subst (λ (x : Float). HasValue x s ((2 ^ 52 + t) * 2 ^ f) (2 ^ 1074))
    (sym (cond_no (eqb (suc f) 2047) (cond (eqb t 0) (inf s) nan) (odd 53 s (2 ^ 52 + t) f 1074) (not_T (eqb (suc f) 2047) (λ (u : T (eqb (suc f) 2047)). lt_irrefl 2047 (subst (λ (x : ℕ). x < 2047) (eqb→eq (suc f) 2047 u) h)))))
    (odd_sign 53 s (2 ^ 52 + t) f 1074)

field-pos : (f t : ℕ) → 0 < f * 2 ^ 52 + t → 0 < field_count f t
field-pos zero t h = omega arith
field-pos (suc f) t h = mul-pos (omega arith) (pow_pos f)

-- ---- the root of a value, by its sign
nothing : (e : ℤ) (a c : ℕ) → 0 < a → 0 * up e * c ≡ a * down e → ⊥
nothing e a c p h = lt_irrefl 0 (subst (λ (x : ℕ). 0 < x) (sym h ∙ ap (λ (x : ℕ). x * c) (zero-mul (up e)) ∙ zero-mul c) (mul-pos p (down_pos e)))

below-zero : (x : Float) (a c : ℕ) → 0 < a → HasValue x true a c → square_root x ≡ nan
unfolding square_root
below-zero nan a c p v = absurd v
below-zero (inf s) a c p v = absurd v
below-zero (fin true zero e) a c p v = absurd (nothing e a c p v.1)
below-zero (fin true (suc m) e) a c p v = refl
below-zero (fin false m e) a c p v = absurd (true≢false (sym v.0))

above_zero : (x : Float) (a : ℕ) → 0 < a → T (fits binary64 x) → HasValue x false a (2 ^ 1074) → square_root x ≡ nearest_root (a * 2 ^ 1074)
unfolding square_root
above_zero nan a p t v = absurd v
above_zero (inf s) a p t v = absurd v
above_zero (fin false zero e) a p t v = absurd (nothing e a (2 ^ 1074) p v.1)
above_zero (fin false (suc m) e) a p t v = ap (λ (n : ℕ). nearest_root (n * 2 ^ 1074)) (counted (fin false (suc m) e) false a t v).size
above_zero (fin true m e) a p t v = absurd (true≢false v.0)

-- ---- the root of a pattern
plain_value : (b : ℕ) (s : Bool) → leb (2 ^ 63) b ≡ s → b % 2 ^ 63 < 0x7ff0_0000_0000_0000
    → HasValue (of_bits binary64 b) s (field_count (b % 2 ^ 63 / 2 ^ 52) (b % 2 ^ 52)) (2 ^ 1074)
plain_value b s e h =
    subst (λ (x : Float). HasValue x s (field_count (b % 2 ^ 63 / 2 ^ 52) (b % 2 ^ 52)) (2 ^ 1074))
    (sym (bits_are b ∙ ap (λ (u : Bool). of_fields binary64 u (b % 2 ^ 63 / 2 ^ 52) (b % 2 ^ 52)) e))
    (fields_value s (b % 2 ^ 63 / 2 ^ 52) (b % 2 ^ 52) (omega arith))

pub root-of-pattern : (b r : ℕ) → 0 < b → b < 0x7ff0_0000_0000_0000 → Rooted b r → of_bits binary64 r ≡ square_root (of_bits binary64 b)
unfolding pattern_count
root-of-pattern b r p h k =
    let f : b % 2 ^ 63 / 2 ^ 52 ≡ b / 2 ^ 52 = omega arith in
    let v = plain_value b false (is_false (leb (2 ^ 63) b) (lt→nleb (2 ^ 63) b (omega arith))) (omega arith) in
    let w = subst (λ (x : ℕ). HasValue (of_bits binary64 b) false (field_count x (b % 2 ^ 52)) (2 ^ 1074)) f v in
    k.value ∙ sym (above_zero (of_bits binary64 b) (pattern_count b) (field-pos (b / 2 ^ 52) (b % 2 ^ 52) (omega arith)) (of_bits-fits binary64 b) w)

pub root-above-zero : (b r : ℕ) → 0 < b → b < 0x7ff0_0000_0000_0000 → Rooted b r → r ≡ square_root_bits b
unfolding square_root_bits
root-above-zero b r p h k =
    let q : r < 0x7ff0_0000_0000_0000 = k.finite in
    sym (ap (to_bits binary64) (sym (root-of-pattern b r p h k)) ∙ to_bits-of_bits binary64 r (omega arith) (subst (λ (x : Bool). T (not x)) (nan_bits_is binary64 r) (not-nan-pattern r (omega arith))))

root-of-nan : (b : ℕ) → 0x7ff0_0000_0000_0000 < b % 2 ^ 63 → square_root (of_bits binary64 b) ≡ nan
unfolding square_root
root-of-nan b h = ap square_root (sym (nan_pattern b h))

root-of-minus-infinity : (b : ℕ) → b ≡ 0xfff0_0000_0000_0000 → square_root (of_bits binary64 b) ≡ nan
unfolding square_root of_bits
root-of-minus-infinity b e = ap (λ (x : ℕ). square_root (of_bits binary64 x)) e

root-below-zero : (b : ℕ) → 2 ^ 63 < b → b < 2 ^ 64 → b % 2 ^ 63 < 0x7ff0_0000_0000_0000 → square_root (of_bits binary64 b) ≡ nan
root-below-zero b lo hi h =
    below-zero (of_bits binary64 b) (field_count (b % 2 ^ 63 / 2 ^ 52) (b % 2 ^ 52)) (2 ^ 1074) (field-pos (b % 2 ^ 63 / 2 ^ 52) (b % 2 ^ 52) (omega arith))
    (plain_value b true (is_true (leb (2 ^ 63) b) (le→leb (2 ^ 63) b (omega arith))) h)

-- a NaN, -infinity, or a number below zero
pub no-root : (b : ℕ) → b < 2 ^ 64 → 0x7ff0_0000_0000_0000 < b → (b ≡ 2 ^ 63 → ⊥) → 0x7ff8_0000_0000_0000 ≡ square_root_bits b
unfolding square_root_bits to_bits
no-root b W h z = sym (ap (to_bits binary64) (go (dec_le (b % 2 ^ 63) 0x7ff0_0000_0000_0000) (dec_le 0x7ff0_0000_0000_0000 (b % 2 ^ 63))))
  where
    go : Dec (b % 2 ^ 63 ≤ 0x7ff0_0000_0000_0000) → Dec (0x7ff0_0000_0000_0000 ≤ b % 2 ^ 63) → square_root (of_bits binary64 b) ≡ nan
    go (no n) d = root-of-nan b (lt_of_not-le n)
    go (yes l) (yes m) = root-of-minus-infinity b (omega arith)
    go (yes l) (no n) = let k = lt_of_not-le n in root-below-zero b (omega arith) W k
