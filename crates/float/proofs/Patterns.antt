-- The bit patterns of the numbers that are finite and above zero: how many units of 2 ^ -1074 such a pattern stands for (`read`), that number
-- as a significand of 53 digits and a power of 2 (`split-low`, `split-high`), and the pattern of q * 2 ^ k units for a q of 53 digits (`written`).
-- Assumes nothing.
use mathlib.Core.Path.{◌≡◌, refl, sym, ap, ◌∙◌, subst}
use mathlib.Core.Logic.{inl, inr}
use mathlib.Core.Bool.{Bool, true, false, not, cond, false≢true}
use Prim.Native.Nat.{ℕ, zero, suc, ◌+◌, ◌-◌, ◌*◌, ◌/◌, ◌%◌, ◌^◌, ◌≤◌, ◌<◌}
use native.Mathlib.Nat.{add_comm, add-sub_of_le, zero-mul, eq-zero-or-pos, le_trans, le_of_eq, lt_of_lt_of_le, lt_of_le_of_lt, lt_irrefl, zero-lt-suc, mul-one, mul_assoc, mul-pos, eq_of_mul-eq-mul_right, mul-le-mul_right, mod-eq_of_lt, div-lt_iff_lt-mul, pow-suc}
use native.Mathlib.Omega.{arith}
use lib.Dec.{T, leb, ltb, eqb, nleb→lt, lt→ltb, eqb→eq, not_T, lit<, lit≤}
use lib.Arith.{lt→nleb}
use lib.IntN.{ℤ}
use lib.Pow.{pow-add, pow_pos, pow_mono, shl_lt}
use lib.Count.{count_trailing_zeros, under, count_leading_zeros, leading_top}
use lib.Ieee.{Float, nan, inf, fin, binary64, up, down, minus, odd, units, fits, of_fields, of_bits, to_bits}
use lib.Ieee.Fits.{down_pos, up_pos}
use lib.Ieee.Scale.{finite}
use lib.Ieee.Exact.{HasValue, odd_sign}
use lib.Ieee.Bits.{of_bits-to_bits, is_true, is_false, cond_no}
use Rattle.float.specs.Exact.{shift, count}
use Rattle.float.specs.Steps.{field_count, pattern_count, Split}
use Rattle.float.proofs.Counts.{pow_lt_back, fraction}

-- ---- reading: the number that a pattern stands for
abbrev Counted : Bool → ℕ → ℕ → ℕ → ℤ → Type 0
Counted s f t m e = (false ≡ s) × (f < 2047) × (m * up e * 2 ^ 1074 ≡ field_count f t * down e)

fields-count : (s : Bool) (f t m : ℕ) (e : ℤ) → f < 2048 → of_fields binary64 s f t ≡ fin false m e → Counted s f t m e
unfolding of_fields
fields-count s zero t m e F h =
    let v : HasValue (fin false m e) s (t * 2 ^ 0) (2 ^ 1074) = subst (λ (x : Float). HasValue x s (t * 2 ^ 0) (2 ^ 1074)) h (odd_sign 53 s t 0 1074) in
    (v.0, lit< tt, v.1 ∙ ap (λ (x : ℕ). x * down e) (mul-one t))
fields-count s (suc f) t m e F h = go (eqb (suc f) 2047) (eqb t 0) (λ (k : suc f ≡ 2047). subst (λ (x : ℕ). T (eqb x 2047)) (sym k) tt) h
  where
    less : (x : ℕ) → x < 2048 → (x ≡ 2047 → ⊥) → x < 2047
    less x a b = omega arith

    go : (y z : Bool) → (suc f ≡ 2047 → T y) → cond y (cond z (inf s) nan) (odd 53 s (2 ^ 52 + t) f 1074) ≡ fin false m e → Counted s (suc f) t m e
    go true true b h = absurd (false≢true (ap finite h))
    go true false b h = absurd (false≢true (ap finite h))
    go false z b h =
        let v : HasValue (fin false m e) s ((2 ^ 52 + t) * 2 ^ f) (2 ^ 1074) = subst (λ (x : Float). HasValue x s ((2 ^ 52 + t) * 2 ^ f) (2 ^ 1074)) h (odd_sign 53 s (2 ^ 52 + t) f 1074) in
        (v.0, less (suc f) F b, v.1)

pub bits_are : (b : ℕ) → of_bits binary64 b ≡ of_fields binary64 (leb (2 ^ 63) b) (b % 2 ^ 63 / 2 ^ 52) (b % 2 ^ 52)
unfolding of_bits
bits_are b = refl

pub field_lt : (b : ℕ) → b % 2 ^ 63 / 2 ^ 52 < 2048
field_lt b = omega arith

no_sign : (b : ℕ) → b < 2 ^ 63 → b % 2 ^ 63 / 2 ^ 52 ≡ b / 2 ^ 52
no_sign b h = omega arith

in-range : (b f : ℕ) → b / 2 ^ 52 ≡ f → f < 2047 → b < 0x7ff0_0000_0000_0000
in-range b f e h = omega arith

pub record Read (b m : ℕ) (e : ℤ) : Type 0 where
  pub some : 0 < b
  pub finite : b < 0x7ff0_0000_0000_0000
  pub counted : count (fin false m e) ≡ pattern_count b

pub read : (m : ℕ) (e : ℤ) → T (fits binary64 (fin false (suc m) e)) → Read (to_bits binary64 (fin false (suc m) e)) (suc m) e
unfolding count pattern_count
read m e t = go (to_bits binary64 (fin false (suc m) e)) (of_bits-to_bits binary64 (fin false (suc m) e) t)
  where
    none : (b : ℕ) → b ≡ 0 → field_count (b / 2 ^ 52) (b % 2 ^ 52) * down e ≡ 0
    none b z = ap (λ (x : ℕ). field_count (x / 2 ^ 52) (x % 2 ^ 52) * down e) z ∙ zero-mul (down e)

    go : (b : ℕ) → of_bits binary64 b ≡ fin false (suc m) e → Read b (suc m) e
    go b h =
        let k = fields-count (leb (2 ^ 63) b) (b % 2 ^ 63 / 2 ^ 52) (b % 2 ^ 52) (suc m) e (field_lt b) (sym (bits_are b) ∙ h) in
        let l : b < 2 ^ 63 = nleb→lt (2 ^ 63) b (subst (λ (x : Bool). T (not x)) k.0 tt) in
        let f : b % 2 ^ 63 / 2 ^ 52 ≡ b / 2 ^ 52 = no_sign b l in
        let v : suc m * up e * 2 ^ 1074 ≡ field_count (b / 2 ^ 52) (b % 2 ^ 52) * down e = k.2 ∙ ap (λ (x : ℕ). field_count x (b % 2 ^ 52) * down e) f in
        record {
          some = elim (eq-zero-or-pos b) [
            | inl z ↦ absurd (lt_irrefl 0 (subst (λ (x : ℕ). 0 < x) (v ∙ none b z) (mul-pos (mul-pos (zero-lt-suc m) (up_pos e)) (pow_pos 1074))))
            | inr p ↦ p
          ];
          finite = in-range b (b % 2 ^ 63 / 2 ^ 52) (sym f) k.1;
          counted = eq_of_mul-eq-mul_right (down e) (down_pos e) (suc m * 2 ^ shift e) (field_count (b / 2 ^ 52) (b % 2 ^ 52)) (sym (fraction false (suc m) e t) ∙ v);
        }

-- ---- splitting: a significand of 53 digits
-- a number below 2 ^ 52, shifted up by its leading zero bits past the eleven that a significand has
pub record Shifted (t z : ℕ) : Type 0 where
  pub some : 11 ≤ z
  pub most : z - 11 ≤ 52
  pub low : 2 ^ 52 ≤ t * 2 ^ (z - 11)
  pub high : t * 2 ^ (z - 11) < 2 ^ 53

pub shifted : (t : ℕ) → 0 < t → t < 2 ^ 52 → Shifted t (count_leading_zeros 64 t)
shifted t p h = go (count_leading_zeros 64 t) (leading_top 64 t p (lt_of_lt_of_le h (lit≤ tt)))
  where
    go : (z : ℕ) → (j : ℕ) × (z + suc j ≡ 64) × (2 ^ j ≤ t) × (t < 2 ^ suc j) → Shifted t z
    go z l =
        let j = l.0 in
        let J : j < 52 = pow_lt_back j 52 (lt_of_le_of_lt l.2 h) in
        let e : z + suc j ≡ 64 = l.1 in
        let s : j + (z - 11) ≡ 52 = omega arith in
        let s' : suc j + (z - 11) ≡ 53 = omega arith in
        record {
          some = omega arith;
          most = omega arith;
          low = le_trans (le_of_eq (ap (λ (x : ℕ). 2 ^ x) (sym s) ∙ pow-add 2 j (z - 11))) (mul-le-mul_right (2 ^ (z - 11)) l.2);
          high = lt_of_lt_of_le (shl_lt (suc j) (z - 11) l.3) (le_of_eq (ap (λ (x : ℕ). 2 ^ x) s'));
        }

-- what `split` returns for a field of 0, and for another
low-exact : (t z : ℕ) → z ≤ 1074 → t * 2 ^ z * 2 ^ (1074 - z) ≡ t * 2 ^ 1074
low-exact t z h = mul_assoc t (2 ^ z) (2 ^ (1074 - z)) ∙ ap (λ (x : ℕ). t * x) (sym (pow-add 2 z (1074 - z)) ∙ ap (λ (x : ℕ). 2 ^ x) (join z h))
  where
    join : (z : ℕ) → z ≤ 1074 → z + (1074 - z) ≡ 1074
    join z h = omega arith

high-exact : (f t : ℕ) → (f ≡ 0 → ⊥) → (t + 2 ^ 52) * 2 ^ (f + 1073) ≡ field_count f t * 2 ^ 1074
high-exact zero t n = absurd (n refl)
high-exact (suc f) t n =
    ap (λ (x : ℕ). x * 2 ^ (suc f + 1073)) (add_comm t (2 ^ 52))
    ∙ ap (λ (x : ℕ). (2 ^ 52 + t) * x) (ap (λ (x : ℕ). 2 ^ x) (turned f) ∙ pow-add 2 f 1074)
    ∙ sym (mul_assoc (2 ^ 52 + t) (2 ^ f) (2 ^ 1074))
  where
    turned : (f : ℕ) → suc f + 1073 ≡ f + 1074
    turned f = omega arith

pub split-low : (b : ℕ) → 0 < b → b / 2 ^ 52 ≡ 0 → Split (pattern_count b * 2 ^ 1074) (record { m = b % 2 ^ 52 * 2 ^ (count_leading_zeros 64 (b % 2 ^ 52) - 11) % 2 ^ 64; j = 1074 - (count_leading_zeros 64 (b % 2 ^ 52) - 11) })
unfolding pattern_count
split-low b p e =
    let t = b % 2 ^ 52 in
    let s = shifted t (omega arith) (omega arith) in
    go (count_leading_zeros 64 t - 11) s.most s.low s.high
  where
    go : (z : ℕ) → z ≤ 52 → 2 ^ 52 ≤ b % 2 ^ 52 * 2 ^ z → b % 2 ^ 52 * 2 ^ z < 2 ^ 53 → Split (field_count (b / 2 ^ 52) (b % 2 ^ 52) * 2 ^ 1074) (record { m = b % 2 ^ 52 * 2 ^ z % 2 ^ 64; j = 1074 - z })
    go z Z lo hi =
        let t = b % 2 ^ 52 in
        let same : t * 2 ^ z % 2 ^ 64 ≡ t * 2 ^ z = mod-eq_of_lt (lt_of_lt_of_le hi (lit≤ tt)) in
        record {
          low = omega arith;
          high = omega arith;
          far = omega arith;
          near = omega arith;
          exact = ap (λ (x : ℕ). x * 2 ^ (1074 - z)) same ∙ low-exact t z (omega arith) ∙ ap (λ (x : ℕ). field_count x t * 2 ^ 1074) (sym e);
        }

pub split-high : (b : ℕ) → b < 0x7ff0_0000_0000_0000 → (b / 2 ^ 52 ≡ 0 → ⊥) → Split (pattern_count b * 2 ^ 1074) (record { m = b % 2 ^ 52 + 2 ^ 52; j = b / 2 ^ 52 + 1073 })
unfolding pattern_count
split-high b l n = record { low = omega arith; high = omega arith; far = omega arith; near = omega arith; exact = high-exact (b / 2 ^ 52) (b % 2 ^ 52) n }

-- ---- writing: q * 2 ^ i units, for a q of 53 digits
half_pos : (q : ℕ) → 0 < q → q % 2 ≡ 0 → 0 < q / 2
half_pos q h e = omega arith

zeros-same : (d q : ℕ) → 0 < q → q < 2 ^ d → count_trailing_zeros (suc d) q ≡ count_trailing_zeros d q
unfolding count_trailing_zeros
zeros-same zero q p h = absurd (none q p h)
  where
    none : (q : ℕ) → 0 < q → q < 1 → ⊥
    none q a b = omega arith
zeros-same (suc d) q p h = go (q % 2) refl (zeros-same d (q / 2))
  where
    go : (r : ℕ) → q % 2 ≡ r → (0 < q / 2 → q / 2 < 2 ^ d → count_trailing_zeros (suc d) (q / 2) ≡ count_trailing_zeros d (q / 2)) → under r (count_trailing_zeros (suc d) (q / 2)) ≡ under r (count_trailing_zeros d (q / 2))
    go zero e ih = ap suc (ih (half_pos q p e) ((div-lt_iff_lt-mul (zero-lt-suc 1)).1 (subst (λ (x : ℕ). q < x) (pow-suc 2 d) h)))
    go (suc r) e ih = refl

odd-same : (q k : ℕ) → 0 < q → q < 2 ^ 53 → odd 54 false q k 1074 ≡ odd 53 false q k 1074
unfolding odd
odd-same zero k p h = refl
odd-same (suc q) k p h = ap (λ (t : ℕ). fin false (suc q / 2 ^ t) (minus (k + t) 1074)) (zeros-same 53 (suc q) p h)

units-are : (q k : ℕ) → q < 2 ^ 53 → k ≤ 2045 → units binary64 false q k ≡ odd 54 false q k 1074
unfolding units
units-are q k h K = ap (λ (b : Bool). cond b (odd 54 false q k 1074) (inf false)) (is_true (ltb (q * 2 ^ k) (2 ^ 2098)) (lt→ltb (q * 2 ^ k) (2 ^ 2098) (lt_of_lt_of_le (shl_lt 53 k h) (pow_mono {i = 53 + k} {j = 2098} (omega arith)))))

fields-are : (k t : ℕ) → suc k < 2047 → of_fields binary64 false (suc k) t ≡ odd 53 false (2 ^ 52 + t) k 1074
unfolding of_fields
fields-are k t h = cond_no (eqb (suc k) 2047) (cond (eqb t 0) (inf false) nan) (odd 53 false (2 ^ 52 + t) k 1074) (not_T (eqb (suc k) 2047) (λ (u : T (eqb (suc k) 2047)). lt_irrefl 2047 (subst (λ (x : ℕ). x < 2047) (eqb→eq (suc k) 2047 u) h)))

pub written : (k q : ℕ) → 2 ^ 52 ≤ q → q < 2 ^ 53 → k ≤ 2045 → of_bits binary64 (k * 2 ^ 52 + q) ≡ units binary64 false q k
written k q lo hi K =
    let b = k * 2 ^ 52 + q in
    let plain : leb (2 ^ 63) b ≡ false = is_false (leb (2 ^ 63) b) (lt→nleb (2 ^ 63) b (omega arith)) in
    let f : b % 2 ^ 63 / 2 ^ 52 ≡ suc k = omega arith in
    let t : b % 2 ^ 52 ≡ q - 2 ^ 52 = omega arith in
    bits_are b
    ∙ ap (λ (s : Bool). of_fields binary64 s (b % 2 ^ 63 / 2 ^ 52) (b % 2 ^ 52)) plain
    ∙ ap (λ (x : ℕ). of_fields binary64 false x (b % 2 ^ 52)) f
    ∙ ap (λ (x : ℕ). of_fields binary64 false (suc k) x) t
    ∙ fields-are k (q - 2 ^ 52) (omega arith)
    ∙ ap (λ (x : ℕ). odd 53 false x k 1074) (add-sub_of_le lo)
    ∙ sym (odd-same q k (omega arith) hi)
    ∙ sym (units-are q k hi K)
