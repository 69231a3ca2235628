-- The root of a number within 2 ^ 26 patterns of 1.0: half as far from 1.0, rounded toward below. Assumes nothing.
use mathlib.Core.Path.{◌≡◌, ap, subst}
use Prim.Native.Nat.{ℕ, ◌+◌, ◌-◌, ◌*◌, ◌/◌, ◌%◌, ◌^◌, ◌≤◌, ◌<◌}
use native.Mathlib.Nat.{mul-le-mul, mul-le-mul_right, lt_of_not-le}
use native.Mathlib.Decide.{dec_le}
use native.Mathlib.Omega.{arith}
use Rattle.whole_roots.specs.Roots.{square, Between}
use Rattle.float.specs.Steps.{Rooted}
use Rattle.float.proofs.SquareRoot.{root-of-field}

-- above 1.0 by d patterns: the root is h further than 2 ^ 52, for a d of 2 * h or one more
above-one : (d h o : ℕ) → h ≤ 2 ^ 25 → 2 * h ≤ d → d ≤ 2 * h + 1 → o + 1 ≡ 2 * (2 ^ 52 + h) → Between ((d + 2 ^ 52) * 1 * 2 ^ 54) (2 ^ 52 + h)
above-one d h o H lo hi e =
    let s : h * h ≤ 2 ^ 25 * 2 ^ 25 = mul-le-mul H H in
    let t : (o + 1) * (o + 1) ≡ 2 * (2 ^ 52 + h) * (2 * (2 ^ 52 + h)) = ap square e in
    record { odd = o; next = e; above = omega arith; under = omega arith }

-- below 1.0 by d patterns: with A for 2 ^ 54, A - 2 * d lies between the squares of A - k and A - k + 2, over A, for a k of d + 1 or d + 2
short-above : (A o k n d : ℕ) → o + k ≡ A → n + 2 * d ≡ A → d + 1 ≤ k → k * k < 2 * A → o * o < n * A
short-above A o k n d e f g h =
    omega (arith, ap (λ (x : ℕ). x * o) e, ap (λ (x : ℕ). x * k) e, ap (λ (x : ℕ). x * A) e, ap (λ (x : ℕ). x * A) f, mul-le-mul_right A g)

short-under : (A o k n d : ℕ) → o + k ≡ A → n + 2 * d ≡ A → k ≤ d + 2 → 3 ≤ k → 0 < d → n * A < (o + 2) * (o + 2)
short-under A o k n d e f g h P =
    omega (arith, ap (λ (x : ℕ). x * o) e, ap (λ (x : ℕ). x * k) e, ap (λ (x : ℕ). x * d) e, ap (λ (x : ℕ). x * A) e, ap (λ (x : ℕ). x * A) f, mul-le-mul_right o g, mul-le-mul_right k g, mul-le-mul_right d h)

-- so the root is h short of 2 ^ 53, for a d of 2 * h or one less
below_one : (d h m q o : ℕ) → h ≤ 2 ^ 25 → d ≤ 2 * h → 2 * h ≤ d + 1 → 0 < d → m + d ≡ 2 ^ 53 → q + h ≡ 2 ^ 53 → o + 1 ≡ 2 * q → Between (m * 2 * 2 ^ 54) q
below_one d h m q o H hi lo P em eq eo =
    record {
      odd = o;
      next = eo;
      above = short-above (2 ^ 54) o (2 * h + 1) (m * 2) d (omega arith) (omega arith) (omega arith) (small h H);
      under = short-under (2 ^ 54) o (2 * h + 1) (m * 2) d (omega arith) (omega arith) (omega arith) (omega arith) P;
    }
  where
    small : (h : ℕ) → h ≤ 2 ^ 25 → (2 * h + 1) * (2 * h + 1) < 2 * 2 ^ 54
    small h H = let s : h * h ≤ 2 ^ 25 * 2 ^ 25 = mul-le-mul H H in omega arith

-- the pattern of the whole root q, beside 1.0's and b's
above-bits : (b : ℕ) → b / 2 ^ 52 ≡ 1023 → ((b / 2 ^ 52 + 1073) / 2 - 26) * 2 ^ 52 + (2 ^ 52 + b % 2 ^ 52 / 2) ≡ (b + 0x3ff0_0000_0000_0000) / 2
above-bits b f = omega arith

below-bits : (b : ℕ) → b / 2 ^ 52 ≡ 1022 → ((b / 2 ^ 52 + 1073) / 2 - 26) * 2 ^ 52 + (2 ^ 52 + b % 2 ^ 52 / 2 + 2 ^ 51) ≡ (b + 0x3ff0_0000_0000_0000) / 2
below-bits b f = omega arith

module _ (b : ℕ) (lo : 0x3fef_ffff_fc00_0000 ≤ b) (hi : b ≤ 0x3ff0_0000_0400_0000) where
  pub near-one : Rooted b ((b + 0x3ff0_0000_0000_0000) / 2)
  near-one = go (dec_le 0x3ff0_0000_0000_0000 b)
    where
      from_one : 0x3ff0_0000_0000_0000 ≤ b → Rooted b ((b + 0x3ff0_0000_0000_0000) / 2)
      from_one g =
          let f : b / 2 ^ 52 ≡ 1023 = omega arith in
          let d = b % 2 ^ 52 in
          subst (Rooted b) (above-bits b f)
          (root-of-field b 1023 (2 ^ 52 + d / 2) f (omega arith) (omega arith) (above-one d (d / 2) (2 ^ 53 + 2 * (d / 2) - 1) (omega arith) (omega arith) (omega arith) (omega arith)))

      under_one : b < 0x3ff0_0000_0000_0000 → Rooted b ((b + 0x3ff0_0000_0000_0000) / 2)
      under_one g =
          let f : b / 2 ^ 52 ≡ 1022 = omega arith in
          let t = b % 2 ^ 52 in
          let q = 2 ^ 52 + t / 2 + 2 ^ 51 in
          subst (Rooted b) (below-bits b f)
          (root-of-field b 1022 q f (omega arith) (omega arith) (below_one (2 ^ 52 - t) (2 ^ 53 - q) (t + 2 ^ 52) q (2 * q - 1) (omega arith) (omega arith) (omega arith) (omega arith) (omega arith) (omega arith) (omega arith)))

      go : Dec (0x3ff0_0000_0000_0000 ≤ b) → Rooted b ((b + 0x3ff0_0000_0000_0000) / 2)
      go (yes g) = from_one g
      go (no g) = under_one (lt_of_not-le g)
