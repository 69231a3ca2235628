-- The root of a number within 2 ^ 31 patterns of 1.0, where the square of its distance from 1.0 is clear of a step. Assumes nothing.
use mathlib.Core.Path.{◌≡◌, refl, ap, subst}
use Prim.Native.Nat.{ℕ, ◌+◌, ◌-◌, ◌*◌, ◌/◌, ◌%◌, ◌^◌, ◌≤◌, ◌<◌}
use native.Mathlib.Nat.{mul-le-mul, mul-le-mul_right, lt_of_not-le, lt_of_le_of_lt, lt_of_lt_of_le, lt_irrefl, le_of_lt}
use native.Mathlib.Decide.{dec_le}
use native.Mathlib.Omega.{arith}
use Rattle.whole_roots.specs.Roots.{square, Between}
use Rattle.float.specs.Steps.{Rooted, SquareTerm, Clear}
use Rattle.float.proofs.SquareRoot.{root-of-field}

-- ---- above 1.0 by d patterns, d * d being k * 2 ^ 54 and a clear rest: the root is e further than 2 ^ 52, for a d - k of 2 * e or one more
record Steps (d k : ℕ) : Type 0 where
  far : d ≤ 2 ^ 31
  low : k * 2 ^ 54 + 2 ^ 43 ≤ d * d
  high : d * d < k * 2 ^ 54 + 2 ^ 54

few : (d k : ℕ) → d ≤ 2 ^ 31 → k * 2 ^ 54 ≤ d * d → k ≤ 2 ^ 8
few d k D l = let s : d * d ≤ 2 ^ 31 * 2 ^ 31 = mul-le-mul D D in omega arith

reached : (d k : ℕ) → d ≤ 2 ^ 31 → k * 2 ^ 54 ≤ d * d → k ≤ d
reached d k D l = let s : d * d ≤ 2 ^ 31 * d = mul-le-mul_right d D in omega arith

-- what the square of d has past k * 2 ^ 54 is more than what is lost by going from d to an odd number p of d - k or one more
kept : (d k p : ℕ) → Steps d k → d ≤ p + k → p ≤ 2 ^ 31 + 1 → k * 2 ^ 54 < p * p
kept d k p s hi P =
    let K : k ≤ 2 ^ 8 = few d k s.far (omega (arith, s.low)) in
    let v : d * d ≤ (p + k) * (p + k) = mul-le-mul hi hi in
    let w : p * k ≤ (2 ^ 31 + 1) * 2 ^ 8 = mul-le-mul P K in
    let x : k * k ≤ 2 ^ 8 * 2 ^ 8 = mul-le-mul K K in
    omega (arith, s.low)

one-above : (d k e o : ℕ) → 2 * e + k ≤ d → 2 * e * (2 * e) < k * 2 ^ 54 + 2 ^ 54 → (o + 1) * (o + 1) ≡ 2 * (2 ^ 52 + e) * (2 * (2 ^ 52 + e)) → o + 1 ≡ 2 * (2 ^ 52 + e)
    → square o < (d + 2 ^ 52) * 1 * 2 ^ 54
one-above d k e o lo h t E = omega arith

one-under : (d k e o : ℕ) → d ≤ 2 * e + 1 + k → k * 2 ^ 54 < (2 * e + 1) * (2 * e + 1) → (o + 1) * (o + 1) ≡ 2 * (2 ^ 52 + e) * (2 * (2 ^ 52 + e)) → o + 1 ≡ 2 * (2 ^ 52 + e)
    → (d + 2 ^ 52) * 1 * 2 ^ 54 < square (o + 2)
one-under d k e o hi h t E = omega arith

above-one : (d k e o : ℕ) → Steps d k → 2 * e + k ≤ d → d ≤ 2 * e + 1 + k → o + 1 ≡ 2 * (2 ^ 52 + e) → Between ((d + 2 ^ 52) * 1 * 2 ^ 54) (2 ^ 52 + e)
above-one d k e o s lo hi E =
    let l : 2 * e ≤ d = omega arith in
    let u : 2 * e * (2 * e) ≤ d * d = mul-le-mul l l in
    record {
      odd = o;
      next = E;
      above = one-above d k e o lo (lt_of_le_of_lt u s.high) (ap square E) E;
      under = one-under d k e o hi (kept d k (2 * e + 1) s hi (omega (arith, s.far))) (ap square E) E;
    }

-- ---- below 1.0 by d patterns: with A for 2 ^ 54, the number n = A - 2 * d against the square of A - k, over A
gap-above : (A o k n d : ℕ) → o + k ≡ A → n + 2 * d ≡ A → k * k + 2 * (d * A) < 2 * (k * A) → o * o < n * A
gap-above A o k n d e f g =
    omega (arith, ap (λ (x : ℕ). x * o) e, ap (λ (x : ℕ). x * k) e, ap (λ (x : ℕ). x * A) e, ap (λ (x : ℕ). x * A) f)

gap-under : (A o k n d : ℕ) → o + k ≡ A → n + 2 * d ≡ A → 2 * (k * A) < k * k + 2 * (d * A) → n * A < o * o
gap-under A o k n d e f g =
    omega (arith, ap (λ (x : ℕ). x * o) e, ap (λ (x : ℕ). x * k) e, ap (λ (x : ℕ). x * A) e, ap (λ (x : ℕ). x * A) f)

-- d * d is k * 2 ^ 55 and a clear rest: the root is h short of 2 ^ 53, for a d + k of 2 * h or one less
record Steps-below (d k : ℕ) : Type 0 where
  far : d ≤ 2 ^ 31
  low : k * 2 ^ 55 < d * d
  high : d * d + 2 ^ 44 ≤ k * 2 ^ 55 + 2 ^ 55

wide : (d k c : ℕ) → Steps-below d k → d + k + 1 ≤ c → c ≤ d + (k + 2) → c * c + 2 * (d * 2 ^ 54) < 2 * (c * 2 ^ 54)
wide d k c s lo hi =
    let K : k ≤ 2 ^ 8 = few d k s.far (omega (arith, s.low)) in
    let u : c * c ≤ (d + (k + 2)) * (d + (k + 2)) = mul-le-mul hi hi in
    let m : k + 2 ≤ 2 ^ 8 + 2 = omega arith in
    let v : d * (k + 2) ≤ 2 ^ 31 * (2 ^ 8 + 2) = mul-le-mul s.far m in
    let w : (k + 2) * (k + 2) ≤ (2 ^ 8 + 2) * (2 ^ 8 + 2) = mul-le-mul m m in
    omega (arith, s.high)

narrow : (d k c : ℕ) → Steps-below d k → c ≤ d + k → 2 * (c * 2 ^ 54) < c * c + 2 * (d * 2 ^ 54)
narrow d k c s hi = go (dec_le d c)
  where
    go : Dec (d ≤ c) → 2 * (c * 2 ^ 54) < c * c + 2 * (d * 2 ^ 54)
    go (yes g) = let u : d * d ≤ c * c = mul-le-mul g g in omega (arith, s.low)
    go (no g) = let g' = lt_of_not-le g in omega arith

below_one : (d k h m q o : ℕ) → Steps-below d k → d + k ≤ 2 * h → 2 * h ≤ d + k + 1 → 0 < h → m + d ≡ 2 ^ 53 → q + h ≡ 2 ^ 53 → o + 1 ≡ 2 * q → Between (m * 2 * 2 ^ 54) q
below_one d k h m q o s lo hi P em eq eo =
    record {
      odd = o;
      next = eo;
      above = gap-above (2 ^ 54) o (2 * h + 1) (m * 2) d (omega arith) (omega arith) (wide d k (2 * h + 1) s (omega arith) (omega arith));
      under = gap-under (2 ^ 54) (o + 2) (2 * h - 1) (m * 2) d (omega arith) (omega arith) (narrow d k (2 * h - 1) s (omega arith));
    }

-- ---- the pattern of the whole root q, beside 1.0's and b's
half : (x y : ℕ) → 2 * y ≤ x → x ≤ 2 * y + 1 → y ≡ x / 2
half x y lo hi = omega arith

above-bits : (b d k e : ℕ) → b / 2 ^ 52 ≡ 1023 → d ≡ b % 2 ^ 52 → 2 * e + k ≤ d → d ≤ 2 * e + 1 + k
    → ((b / 2 ^ 52 + 1073) / 2 - 26) * 2 ^ 52 + (2 ^ 52 + e) ≡ (b + 0x3ff0_0000_0000_0000 - k) / 2
above-bits b d k e f g lo hi =
    let j : (b / 2 ^ 52 + 1073) / 2 - 26 ≡ 1022 = omega arith in
    let l : b ≡ 1023 * 2 ^ 52 + d = omega arith in
    rw j (half (b + 0x3ff0_0000_0000_0000 - k) (1022 * 2 ^ 52 + (2 ^ 52 + e)) (omega arith) (omega arith))

below-bits : (b d k h q : ℕ) → b / 2 ^ 52 ≡ 1022 → b % 2 ^ 52 + 2 ^ 52 + d ≡ 2 ^ 53 → d + k ≤ 2 * h → 2 * h ≤ d + k + 1 → q + h ≡ 2 ^ 53
    → ((b / 2 ^ 52 + 1073) / 2 - 26) * 2 ^ 52 + q ≡ (b + 0x3ff0_0000_0000_0000 - k) / 2
below-bits b d k h q f g lo hi e =
    let j : (b / 2 ^ 52 + 1073) / 2 - 26 ≡ 1021 = omega arith in
    let l : b + d ≡ 1023 * 2 ^ 52 = omega arith in
    rw j (half (b + 0x3ff0_0000_0000_0000 - k) (1021 * 2 ^ 52 + q) (omega arith) (omega arith))

pub clear : (n : ℕ) → 2 ^ 45 ≤ (n + 2 ^ 44) % 2 ^ 55 → Clear n
clear n h = record { low = omega arith; high = omega arith }

clear_above : (d n : ℕ) → d ≤ 2 ^ 31 → n ≡ d * d * 2 → Clear n → Steps d (n / 2 ^ 55)
clear_above d n D e c = record { far = D; low = omega (arith, c.low); high = omega (arith, c.high) }

clear-below : (d n : ℕ) → d ≤ 2 ^ 31 → n ≡ d * d → Clear n → Steps-below d (n / 2 ^ 55)
clear-below d n D e c = record { far = D; low = omega (arith, c.low); high = omega (arith, c.high) }

module _ (b n : ℕ) (lo : 0x3fef_ffff_8000_0000 ≤ b) (hi : b ≤ 0x3ff0_0000_8000_0000) (t : SquareTerm b n) (c : Clear n) where
  abbrev k : ℕ
  k = n / 2 ^ 55

  from_one : 0x3ff0_0000_0000_0000 ≤ b → Rooted b ((b + 0x3ff0_0000_0000_0000 - k) / 2)
  from_one g =
      let f : b / 2 ^ 52 ≡ 1023 = omega arith in
      let d = t.distance in
      let a = t.above g in
      let p : d ≡ b % 2 ^ 52 = omega (arith, a.0) in
      let S = clear_above d n t.near a.1 c in
      let K : k ≤ d = reached d k t.near (omega (arith, S.low)) in
      let e = (d - k) / 2 in
      subst (Rooted b) (above-bits b d k e f p (omega arith) (omega arith))
      (root-of-field b 1023 (2 ^ 52 + e) f (omega arith) (omega arith)
      (subst (λ (x : ℕ). Between ((x + 2 ^ 52) * 1 * 2 ^ 54) (2 ^ 52 + e)) p
      (above-one d k e (2 ^ 53 + 2 * e - 1) S (omega arith) (omega arith) (omega arith))))

  under_one : b < 0x3ff0_0000_0000_0000 → Rooted b ((b + 0x3ff0_0000_0000_0000 - k) / 2)
  under_one g =
      let f : b / 2 ^ 52 ≡ 1022 = omega arith in
      let d = t.distance in
      let a = t.below g in
      let p : b % 2 ^ 52 + 2 ^ 52 + d ≡ 2 ^ 53 = omega (arith, a.0) in
      let S = clear-below d n t.near a.1 c in
      let K : k ≤ 2 ^ 8 = few d k t.near (omega (arith, S.low)) in
      let D : d ≤ 2 ^ 31 = t.near in
      let h = (d + k + 1) / 2 in
      let q = 2 ^ 53 - h in
      subst (Rooted b) (below-bits b d k h q f p (omega arith) (omega arith) (omega arith))
      (root-of-field b 1022 q f (omega arith) (omega arith)
      (below_one d k h (b % 2 ^ 52 + 2 ^ 52) q (2 * q - 1) S (omega arith) (omega arith) (omega (arith, a.0)) p (omega arith) (omega arith)))

  pub by-square : Rooted b ((b + 0x3ff0_0000_0000_0000 - n / 2 ^ 55) / 2)
  by-square = go (dec_le 0x3ff0_0000_0000_0000 b)
    where
      go : Dec (0x3ff0_0000_0000_0000 ≤ b) → Rooted b ((b + 0x3ff0_0000_0000_0000 - k) / 2)
      go (yes g) = from_one g
      go (no g) = under_one (lt_of_not-le g)
