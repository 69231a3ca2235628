-- The check of the norm: what it accepts has a squared norm near to 1, and what has one within 128 * 2 ^ -53 of 1 is accepted at 1e-6. Assumes nothing.
use Prim.Native.Nat.{ℕ, zero, suc, ◌+◌, ◌-◌, ◌*◌, ◌^◌, ◌≤◌, ◌<◌}
use mathlib.Core.Path.{◌≡◌, refl, sym, ap, ◌∙◌, subst}
use mathlib.Core.Bool.{Bool, true, false, not, ◌&&◌, beq, cond}
use mathlib.Core.Logic.{inl, inr}
use mathlib.Core.List.{List, [], ◌∷◌}
use native.Mathlib.Nat.{eq-zero-or-pos, le_trans, mul-le-mul, mul-le-mul_right, le_of_mul-le-mul_right}
use native.Mathlib.Omega.{arith}
use lib.Dec.{T, T_not, ltb, leb→le, le→leb, nltb→le, lit≤}
use lib.IntN.{nat_abs, ◌-ℤ◌}
use lib.Ieee.{Float, nan, inf, fin, binary64, of_bits, mul, is_nan, sub, add, sum, round, units, odd, neg, size, span, climb, of_fields, lt, le, eq, fits}
use lib.Ieee.Bits.{is_true}
use lib.Ieee.Fits.{and_l, and_r, round_is, sub-fits}
use lib.Ieee.Scale.{finite}
use lib.Count.{count_trailing_zeros}
use Rattle.std.specs.Prelude.{Err}
use Rattle.whole_roots.specs.Roots.{square}
use Rattle.std.proofs.lemmas.Float.{le_of_not-lt, lt_of_le_of_lt}
use Rattle.float.proofs.Fields.{finite-value-not-nan}
use Rattle.float.specs.Exact.{abs, exact, count, negative}
use Rattle.float.specs.Root.{square_root}
use Rattle.rounding.specs.Number.{Number, one}
use Rattle.rounding.specs.Error.{Within}
use Rattle.rounding.proofs.Laws.{add-operands, exact-size, magnitude-number, magnitude-sign, magnitude-count, one-pos, sub_is, sub-error, sqrt-root, root-squared, root-zero, lt-plain, le-plain}
use Rattle.checks.proofs.Passed.{never}
use Rattle.checks.proofs.NearOne.{Positive, positive, one64, one64-positive, one64-count, most64, most64-positive, most64-count, passes-without-root}
use Rattle.law.specs.Quaternion.{Quaternion}
use Rattle.unit_norm.specs.SquaredNorm.{squared_norm}
use Rattle.unit_norm.proofs.Sums.{tiny, slack, tiny-one, one-tiny, tiny-few, sizes-apart}
use Rattle.unit_norm.proofs.Norms.{Numbers, finite-turn, check-near}
use Rattle.unit_norm.proofs.Unit.{RoughlyOne}
use Rattle.checks.specs.Checks.{passed, and_then, permitted, quaternion_norm_tolerance, check_tolerance, norm_of, check_norm, check_unit_quaternion}
use Rattle.checks.specs.declared.Refusal.TheVariants.{NotFinite, NotUnit, Tolerance}

abbrev pub coefficients : Quaternion Float → List Float
coefficients q = q.w ∷ q.x ∷ q.y ∷ q.z ∷ []

-- ---- what passes at any tolerance passes at the largest one, 1 / 1024
record Passed (n t : Float) : Type 0 where
  fine : T (finite n)
  allowed : T (permitted t)
  near : T (not (lt t (abs (sub binary64 n one64))))

norm-passed : (n t : Float) → check_norm n t ≡ passed → Passed n t
unfolding check_norm check_tolerance
norm-passed n t = go (finite n) (permitted t) (lt t (abs (sub binary64 n one64))) refl refl refl
  where
    go : (a b c : Bool) → finite n ≡ a → permitted t ≡ b → lt t (abs (sub binary64 n one64)) ≡ c
        → cond a (and_then (cond b passed (Err Tolerance)) (λ _. cond c (Err (NotUnit n)) passed)) (Err NotFinite) ≡ passed → Passed n t
    go true true false p q r e = record { fine = subst T (sym p) tt; allowed = subst T (sym q) tt; near = subst (λ (b : Bool). T (not b)) (sym r) tt }
    go true true true p q r e = never e
    go true false c p q r e = never e
    go false b c p q r e = never e

at-most : (t z : Float) → T (permitted t) → T (not (lt t z)) → T (not (lt most64 z))
unfolding permitted
at-most t z p h = go (lt most64 z) refl
  where
    f : T (finite t)
    f = and_l (finite t) (lt (of_bits binary64 0) t) (and_l (finite t && lt (of_bits binary64 0) t) (not (lt most64 t)) p)

    below : T (le t most64)
    below = le_of_not-lt most64 t (unfold of_bits is_nan in tt) (finite-value-not-nan t (is_true (finite t) f)) (and_r (finite t && lt (of_bits binary64 0) t) (not (lt most64 t)) p)

    go : (b : Bool) → lt most64 z ≡ b → T (not b)
    go false e = tt
    go true e = absurd (T_not (lt t z) h (lt_of_le_of_lt t most64 z below (subst T (sym e) tt)))

-- ---- the difference of two numbers is no NaN, which would pass at any tolerance; where it passes, it is a number
round-no-nan : (s : Bool) (n d : ℕ) → T (not (is_nan (round binary64 s n d)))
unfolding is_nan
round-no-nan s n d = subst (λ (x : Float). T (not (is_nan x))) (sym (round_is binary64 s n d)) (each s _ _)
  where
    some : (q k : ℕ) (s : Bool) → T (not (is_nan (odd 54 s q k 1074)))
    some zero k s = unfold odd in tt
    some (suc q) k s = unfold odd in tt

    each : (s : Bool) (q k : ℕ) → T (not (is_nan (units binary64 s q k)))
    each s q k = unfold units in pick (ltb (q * 2 ^ k) (2 ^ 2098)) (odd 54 s q k 1074) (some q k s)
      where
        pick : (b : Bool) (x : Float) → T (not (is_nan x)) → T (not (is_nan (cond b x (inf s))))
        pick true x h = h
        pick false x h = tt

sum-no-nan : (s t : Bool) (a b d : ℕ) → T (not (is_nan (sum binary64 s a t b d)))
unfolding sum
sum-no-nan s t a b d = go (beq s t) (ltb a b)
  where
    go : (p q : Bool) → T (not (is_nan (cond p (round binary64 s (a + b) d) (cond q (round binary64 t (b - a) d) (round binary64 (s && ltb b a) (a - b) d)))))
    go true q = round-no-nan s (a + b) d
    go false true = round-no-nan t (b - a) d
    go false false = round-no-nan (s && ltb b a) (a - b) d

fine-below : (z : Float) → T (not (is_nan z)) → T (not (lt most64 (abs z))) → T (finite z)
unfolding is_nan lt abs of_bits
fine-below nan r h = absurd r
fine-below (inf s) r h = absurd h
fine-below (fin s m e) r h = tt

-- ---- what is accepted has a squared norm within 1 / 32 of 1. First the norm n: within 1 / 512 of 1
record NormNearOne (n : Float) : Type 0 where
  high : 512 * count n ≤ 513 * one
  low : 511 * one ≤ 512 * count n

norm-near-one : {n : Float} → Number n → T (not (lt most64 (abs (sub binary64 n one64)))) → NormNearOne n
norm-near-one {n} N h =
    let z = sub binary64 n one64 in
    let O = one64-positive.number in
    let real : T (not (is_nan z)) = subst (λ (x : Float). T (not (is_nan x))) (sym (sub_is N O)) (sum-no-nan (negative n) (not (negative one64)) (count n) (count one64) (2 ^ 1074)) in
    let Z : Number z = record { is_binary64 = sub-fits binary64 n one64; is_finite = fine-below z real h } in
    let d = exact n -ℤ exact one64 in
    let own = (sub-error N O Z.is_finite).relative in
    let size : count z ≤ count most64 = no-larger Z h in
    let a = rw (exact-size z) at (sizes-apart (exact z) d) in
    let small = within (nat_abs d) (nat_abs (exact z -ℤ d)) (count z) (count most64) one a.under own size most64-count in
    let b = rw (exact-size n, exact-size one64, one64-count) at (sizes-apart (exact n) (exact one64)) in
    record { high = above (count n) one (nat_abs d) b.over small; low = under (count n) one (nat_abs d) b.under small }
  where
    no-larger : {z : Float} → Number z → T (not (lt most64 (abs z))) → count z ≤ count most64
    no-larger {z} Z h = nltb→le _ _ (rw (lt-plain most64-positive.number (magnitude-number Z) most64-positive.sign (magnitude-sign z), magnitude-count z) at h)

    within : (d e c m o : ℕ) → d ≤ c + e → 2 ^ 53 * e ≤ d → c ≤ m → 2 ^ 10 * m ≡ o → 512 * d ≤ o
    within d e c m o h k l f = omega arith

    above : (n o d : ℕ) → n ≤ o + d → 512 * d ≤ o → 512 * n ≤ 513 * o
    above n o d h k = omega arith

    under : (n o d : ℕ) → o ≤ n + d → 512 * d ≤ o → 511 * o ≤ 512 * n
    under n o d h k = omega arith

-- a root that is finite is one of a finite number
root-finite : (g : Float) → T (finite (square_root g)) → T (finite g)
unfolding square_root
root-finite nan t = t
root-finite (inf true) t = t
root-finite (inf false) t = t
root-finite (fin s m e) t = tt

-- so four binary64 that are accepted are numbers
factor-finite : (x : Float) → T (finite (mul binary64 x x)) → T (finite x)
unfolding mul
factor-finite nan t = t
factor-finite (inf s) t = t
factor-finite (fin s m e) t = tt

pub accepted-numbers : {q : Quaternion Float} (t : Float) → T (fits binary64 q.w) → T (fits binary64 q.x) → T (fits binary64 q.y) → T (fits binary64 q.z)
    → check_unit_quaternion (coefficients q) t ≡ passed → Numbers q
unfolding check_unit_quaternion norm_of
accepted-numbers {q} t fw fx fy fz h =
    let P = norm-passed (norm_of (coefficients q)) t h in
    let a = add-operands _ (mul binary64 q.z q.z) (root-finite _ P.fine) in
    let b = add-operands _ (mul binary64 q.y q.y) a.0 in
    let c = add-operands (mul binary64 q.w q.w) (mul binary64 q.x q.x) b.0 in
    record {
      w = record { is_binary64 = fw; is_finite = factor-finite q.w c.0 };
      x = record { is_binary64 = fx; is_finite = factor-finite q.x c.1 };
      y = record { is_binary64 = fy; is_finite = factor-finite q.y b.1 };
      z = record { is_binary64 = fz; is_finite = factor-finite q.z a.1 };
    }

-- n is the root in the first two and its square in the others, v the rounded sum, q the square of one
square-high : (n o : ℕ) → 512 * n ≤ 513 * o → 2 ^ 18 * (n * n) ≤ 263169 * (o * o)
square-high n o h = omega (arith, mul-le-mul h h)

square-low : (n o : ℕ) → 511 * o ≤ 512 * n → 261121 * (o * o) ≤ 2 ^ 18 * (n * n)
square-low n o h = omega (arith, mul-le-mul h h)

sum-high : (n v s t q : ℕ) → 2 ^ 53 * v ≤ 2 ^ 53 * n + 3 * n → 2 ^ 53 * s ≤ 2 ^ 53 * v + (4 * s + 7 * (2 ^ 10 * t)) → 2 ^ 18 * n ≤ 263169 * q → q ≡ 2 ^ 53 * t → 32 * s ≤ 33 * q
sum-high n v s t q h k l e = omega arith

sum-low : (n v s t q : ℕ) → 2 ^ 53 * n ≤ 2 ^ 53 * v + 3 * n → 2 ^ 53 * v ≤ 2 ^ 53 * s + (4 * s + 7 * (2 ^ 10 * t)) → 261121 * q ≤ 2 ^ 18 * n → q ≡ 2 ^ 53 * t → 31 * q ≤ 32 * s
sum-low n v s t q h k l e = omega arith

coarse : (n v s o t : ℕ) → s ≤ 16 * (v + o) → 2 ^ 53 * v ≤ 2 ^ 53 * n + 3 * n → 2 ^ 18 * n ≤ 263169 * (o * o) → 2 ^ 100 * o ≤ t → t ≤ o * o → s ≤ 2 ^ 7 * (o * o)
coarse n v s o t h k l e f = omega arith

pub accepted-roughly-one : {q : Quaternion Float} (t : Float) → Numbers q → check_unit_quaternion (coefficients q) t ≡ passed → RoughlyOne (squared_norm q)
unfolding check_unit_quaternion norm_of slack
accepted-roughly-one {q} t Q h =
    let n = norm_of (coefficients q) in
    let P = norm-passed n t h in
    let F = finite-turn Q (root-finite _ P.fine) in
    elim (eq-zero-or-pos (count _)) [
      | inl e ↦ absurd (none (count n) one (norm-near-one (subst Number (sym (root-zero _ F.number e)) F.number) (at-most t _ P.allowed P.near)).low (ap count (root-zero _ F.number e) ∙ e) one-pos)
      | inr p ↦
          let R = sqrt-root F.number F.sign p in
          let w = root-squared R.error in
          let N = norm-near-one R.number (at-most t _ P.allowed P.near) in
          let high = square-high (count n) one N.high in
          let low = square-low (count n) one N.low in
          let G = check-near Q (coarse (square (count n)) _ (squared_norm q) one tiny F.least w.under high one-tiny (le_trans (one-times tiny) (tiny-few 1 (lit≤ tt)))) in
          record { high = sum-high (square (count n)) _ (squared_norm q) tiny (one * one) w.under G.near.under high tiny-one; low = sum-low (square (count n)) _ (squared_norm q) tiny (one * one) w.over G.near.over low tiny-one }
    ]
  where
    none : (n o : ℕ) → 511 * o ≤ 512 * n → n ≡ 0 → 0 < o → ⊥
    none n o h e p = omega arith

    one-times : (t : ℕ) → t ≤ 1 * t
    one-times t = omega arith

-- ---- what has a squared norm within 128 * 2 ^ -53 of 1 is accepted at 1e-6: the rounded sum lies between the rounded 1 - 1e-6 and 1 + 1e-6
low64 : sub binary64 one64 quaternion_norm_tolerance ≡ of_bits binary64 0x3fef_fffd_e721_0be9
unfolding sub add neg sum round size span climb odd units count_trailing_zeros of_fields of_bits quaternion_norm_tolerance
low64 = refl

high64 : add binary64 one64 quaternion_norm_tolerance ≡ of_bits binary64 0x3ff0_0001_0c6f_7a0b
unfolding add sum round size span climb odd units count_trailing_zeros of_fields of_bits quaternion_norm_tolerance
high64 = refl

record Limits (l m : Float) : Type 0 where
  low : Positive l
  high : Positive m
  least : 2 ^ 20 * count l ≤ (2 ^ 20 - 1) * one
  most : (2 ^ 20 + 1) * one ≤ 2 ^ 20 * count m

limits : Limits (sub binary64 one64 quaternion_norm_tolerance) (add binary64 one64 quaternion_norm_tolerance)
unfolding of_bits count negative fits one
limits = rw (low64, high64) (record { low = positive tt; high = positive tt; least = leb→le _ _ tt; most = leb→le _ _ tt })

-- v is the rounded sum, s the exact one, q the square of one, l and m the limits times one
above-least : (l v s t q : ℕ) → 2 ^ 20 * l ≤ (2 ^ 20 - 1) * q → q ≤ s + 128 * t → s ≤ q + 128 * t → 2 ^ 53 * s ≤ 2 ^ 53 * v + (4 * s + 7 * (2 ^ 10 * t)) → q ≡ 2 ^ 53 * t → l ≤ v
above-least l v s t q h a b k e = omega arith

below-most : (m v s t q : ℕ) → (2 ^ 20 + 1) * q ≤ 2 ^ 20 * m → s ≤ q + 128 * t → 2 ^ 53 * v ≤ 2 ^ 53 * s + (4 * s + 7 * (2 ^ 10 * t)) → q ≡ 2 ^ 53 * t → v ≤ m
below-most m v s t q h a k e = omega arith

test-le : {x y : Float} → Number x → Number y → negative x ≡ false → negative y ≡ false → count x ≤ count y → le x y ≡ true
test-le X Y p q h = le-plain X Y p q ∙ is_true _ (le→leb _ _ h)

pub near-accepted : {q : Quaternion Float} → Numbers q → Within (squared_norm q) (one * one) (128 * tiny) → check_unit_quaternion (coefficients q) quaternion_norm_tolerance ≡ passed
unfolding check_unit_quaternion norm_of slack
near-accepted {q} Q w =
    let s = squared_norm q in
    let f = tiny-few 1000 (lit≤ tt) in
    let G = check-near Q (size s (one * one) tiny w.over f) in
    let L = limits in
    let l = le_of_mul-le-mul_right (above-least (count (sub binary64 one64 quaternion_norm_tolerance) * one) _ s tiny (one * one) (times (count (sub binary64 one64 quaternion_norm_tolerance)) one L.least) w.under w.over G.near.under tiny-one) one-pos in
    let m = le_of_mul-le-mul_right (below-most (count (add binary64 one64 quaternion_norm_tolerance) * one) _ s tiny (one * one) (times' (count (add binary64 one64 quaternion_norm_tolerance)) one L.most) w.over G.near.over tiny-one) one-pos in
    passes-without-root quaternion_norm_tolerance quaternion_norm_tolerance _ quaternion_norm_tolerance G.number.is_binary64 (unfold quaternion_norm_tolerance of_bits fits in tt)
    (rw (test-le L.low.number G.number L.low.sign G.sign l, test-le G.number L.high.number G.sign L.high.sign m) (unfold quaternion_norm_tolerance of_bits le lt eq in refl))
    (unfold quaternion_norm_tolerance of_bits fits count negative one in record { low = tt; high = tt; least = tt; most = tt })
  where
    size : (s q t : ℕ) → s ≤ q + 128 * t → 1000 * t ≤ q → s ≤ 2 ^ 7 * q
    size s q t h k = omega arith

    times : (l o : ℕ) → 2 ^ 20 * l ≤ (2 ^ 20 - 1) * o → 2 ^ 20 * (l * o) ≤ (2 ^ 20 - 1) * (o * o)
    times l o h = omega (arith, mul-le-mul_right o h)

    times' : (m o : ℕ) → (2 ^ 20 + 1) * o ≤ 2 ^ 20 * m → (2 ^ 20 + 1) * (o * o) ≤ 2 ^ 20 * (m * o)
    times' m o h = omega (arith, mul-le-mul_right o h)
