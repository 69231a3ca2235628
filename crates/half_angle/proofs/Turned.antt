-- Where the two sides are level, the point (c, s) is on the same side as (cosine a, sine a): cosine(a) c + sine(a) s is above 0. Assumes nothing.
use mathlib.Core.Path.{◌≡◌, refl, ap}
use Prim.Native.Nat.{ℕ, zero, suc, ◌+◌, ◌-◌, ◌*◌, ◌^◌, ◌≤◌, ◌<◌}
use native.Mathlib.Nat.{le_trans, le_of_eq, le_of_lt, lt_of_not-le, not-le_of_lt, mul-le-mul, mul-le-mul_left, mul-pos, mul-zero, pow-zero, zero-lt-suc}
use native.Mathlib.Decide.{dec_le}
use native.Mathlib.Omega.{arith}
use lib.Dec.{lit≤}
use lib.Ieee.{of_bits}
use Rattle.float.specs.Exact.{count}
use Rattle.rounding.specs.Number.{one}
use Rattle.rounding.specs.Error.{Within}
use Rattle.rounding.proofs.Laws.{one-pos}
use Rattle.trigonometry.specs.Taylor.{factorial, denominator}
use Rattle.trigonometry.proofs.Terms.{total, sine_added, sine_subtracted, cosine_added, cosine_subtracted}
use Rattle.trigonometry.proofs.Sign.{up-to-2}
use Rattle.trigonometry.proofs.Taylor.{denominator-pos}
use Rattle.half_angle.specs.HalfAngles.{end}
use Rattle.half_angle.proofs.Rise.{total-mono}
use Rattle.half_angle.proofs.Sides.{left, right, Level}

-- ---- cosine is at least 1 / 16 up to 1.25, and sine at least 1 / 2 from there to 1.6
abbrev middle : ℕ
middle = 5 * 2 ^ 1072

abbrev W : ℕ
W = denominator one

cosine-middle : 16 * total middle one cosine_subtracted ≤ 15 * W
unfolding total denominator factorial one
cosine-middle = lit≤ tt

sine-middle : 2 * total (count end) one sine_subtracted + W ≤ 2 * total middle one sine_added
unfolding total denominator factorial one count of_bits
sine-middle = lit≤ tt

cosine-end : total (count end) one cosine_subtracted ≤ 2 * W
unfolding total denominator factorial one count of_bits
cosine-end = lit≤ tt

first-term : (n d : ℕ) → denominator d ≤ total n d cosine_added
unfolding total denominator factorial
first-term n d = rw (pow-zero n) (go (d ^ 31 * 8222838654177922817725562880000000) _)
  where
    go : (X R : ℕ) → X ≤ 1 * X + R
    go X R = omega arith

early : (n : ℕ) → n ≤ middle → 16 * total n one cosine_subtracted + W ≤ 16 * total n one cosine_added
early n h = omega (arith, total-mono one cosine_subtracted h, cosine-middle, first-term n one)

late : (n : ℕ) → middle ≤ n → n ≤ count end → 2 * total n one sine_subtracted + W ≤ 2 * total n one sine_added
late n h k = omega (arith, total-mono one sine_subtracted k, sine-middle, total-mono one sine_added h)

-- ---- the sign, over the sums of sine and cosine, each with what is added and what is subtracted, for weights p and q
-- cosine is at least 1 / 16: at a p of 0 the sides would be apart
zero-p : (q C D W : ℕ) → 2 ^ 40 * (q * C) ≤ D * W → D ≤ 2 * q → W ≤ 16 * C → 0 < D * W → ⊥
zero-p q C D W h d c p = omega (arith, mul-le-mul d c)

-- sine is at least 1 / 2: so they would at a q of 0
zero-q : (p S D W : ℕ) → 2 ^ 40 * (p * S) ≤ D * W → D ≤ 2 * p → W ≤ 2 * S → 0 < D * W → ⊥
zero-q p S D W h d c z = omega (arith, mul-le-mul d c)

module _ (Sa Ss Ca Cs p q D W : ℕ) (l : Within (2 ^ 40 * (p * Sa + q * Cs)) (2 ^ 40 * (p * Ss + q * Ca)) (D * W)) (H : D ≤ 2 * (p + q)) (Z : 0 < D * W) where
  abbrev Above : Type 0
  Above = p * Cs + q * Ss < p * Ca + q * Sa

  -- S is the sine and C the cosine, both not negative
  early-sign : (S C : ℕ) → Ss + S ≡ Sa → Cs + C ≡ Ca → W ≤ 16 * C → 0 < C → Above
  early-sign S C s c w k = go p refl
    where
      go : (x : ℕ) → p ≡ x → Above
      go zero e =
          let apart : 2 ^ 40 * (q * C) ≤ D * W = omega (arith, l.under, ap (λ (x : ℕ). q * x) c, ap (λ (x : ℕ). x * Sa) e, ap (λ (x : ℕ). x * Ss) e) in
          absurd (zero-p q C D W apart (omega arith) w Z)
      go (suc x) e = omega (arith, ap (λ (y : ℕ). p * y) c, ap (λ (y : ℕ). q * y) s, ap (λ (y : ℕ). y * C) e, k)

  late-sign : (S C : ℕ) → Ss + S ≡ Sa → Cs + C ≡ Ca → W ≤ 2 * S → 0 < S → Above
  late-sign S C s c w k = go q refl
    where
      go : (x : ℕ) → q ≡ x → Above
      go zero e =
          let apart : 2 ^ 40 * (p * S) ≤ D * W = omega (arith, l.over, ap (λ (x : ℕ). p * x) s, ap (λ (x : ℕ). x * Ca) e, ap (λ (x : ℕ). x * Cs) e) in
          absurd (zero-q p S D W apart (omega arith) w Z)
      go (suc x) e = omega (arith, ap (λ (y : ℕ). p * y) c, ap (λ (y : ℕ). q * y) s, ap (λ (y : ℕ). y * S) e, k)

  -- the cosine is -N
  last-sign : (S N : ℕ) → Ss + S ≡ Sa → Ca + N ≡ Cs → W ≤ 2 * S → N ≤ 2 * W → Above
  last-sign S N s c w n =
      omega (
        arith,
        l.over,
        l.under,
        ap (λ (y : ℕ). p * y) s,
        ap (λ (y : ℕ). q * y) s,
        ap (λ (y : ℕ). p * y) c,
        ap (λ (y : ℕ). q * y) c,
        mul-le-mul_left p w,
        mul-le-mul_left q w,
        mul-le-mul_left p n,
        mul-le-mul_left q n,
        mul-le-mul_left W H,
      )

less : (a b : ℕ) → a ≤ b → a + (b - a) ≡ b
less a b h = omega arith

under-of : (A B W : ℕ) → 16 * A + W ≤ 16 * B → A ≤ B
under-of A B W h = omega arith

share : (k A B C W : ℕ) → k * A + W ≤ k * B → A + C ≡ B → W ≤ k * C
share k A B C W h e = omega (arith, h, ap (λ (x : ℕ). k * x) e)

some-of : (k C W : ℕ) → W ≤ k * C → 0 < W → 0 < C
some-of k zero W h p = absurd (not-le_of_lt p (le_trans h (le_of_eq (mul-zero k))))
some-of k (suc C) W h p = zero-lt-suc C

bounded : (A B N W : ℕ) → A + N ≡ B → B ≤ 2 * W → N ≤ 2 * W
bounded A B N W e h = omega arith

pub turned : (n p q : ℕ) → n ≤ count end → n ≤ 2 * one → Level n p q → one ≤ 2 * (p + q)
    → p * total n one cosine_subtracted + q * total n one sine_subtracted < p * total n one cosine_added + q * total n one sine_added
unfolding left right
turned n p q top two l k =
    let Sa = total n one sine_added in
    let Ss = total n one sine_subtracted in
    let Ca = total n one cosine_added in
    let Cs = total n one cosine_subtracted in
    let Z : 0 < one * W = mul-pos one-pos denominator-pos in
    let s = less Ss Sa (up-to-2 n one two) in
    elim (dec_le n middle) [
      | yes m ↦
          let w = early n m in
          let c = less Cs Ca (under-of Cs Ca W w) in
          let b = share 16 Cs Ca (Ca - Cs) W w c in
          early-sign Sa Ss Ca Cs p q one W l k Z (Sa - Ss) (Ca - Cs) s c b (some-of 16 (Ca - Cs) W b denominator-pos)
      | no m ↦
          let w = late n (le_of_lt (lt_of_not-le m)) top in
          let b = share 2 Ss Sa (Sa - Ss) W w s in
          elim (dec_le Cs Ca) [
            | yes o ↦ late-sign Sa Ss Ca Cs p q one W l k Z (Sa - Ss) (Ca - Cs) s (less Cs Ca o) b (some-of 2 (Sa - Ss) W b denominator-pos)
            | no o ↦
                let c = less Ca Cs (le_of_lt (lt_of_not-le o)) in
                let most = bounded Ca Cs (Cs - Ca) W c (le_trans (total-mono one cosine_subtracted top) cosine-end) in
                last-sign Sa Ss Ca Cs p q one W l k Z (Sa - Ss) (Cs - Ca) s c b most
          ]
    ]
