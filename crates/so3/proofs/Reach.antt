-- In every call that is not refused because of its turn the sines and cosines that the closed forms take are within 2 ^ -45 of their Taylor sums: the
-- squared angle is at most 9 then, and that of half of theta is no larger, since rounding keeps the order. Above the limit of the series neither the angle
-- nor that of half of theta is 0, and the sine of the angle is above 0: nothing that the inverse Jacobian divides by is 0, nor is the norm that log divides by.
-- Assumes nothing.
use mathlib.Core.Path.{◌≡◌, refl, sym, ap, subst}
use mathlib.Core.Logic.{inl, inr}
use mathlib.Core.Bool.{Bool, true, false}
use Prim.Native.Nat.{ℕ, zero, suc, zero-le, ◌+◌, ◌*◌, ◌^◌, ◌≤◌, ◌<◌}
use native.Mathlib.Nat.{le_trans, le_of_eq, le_of_lt, lt_of_not-le, lt_of_le_of_lt, eq-zero-or-pos, mul-le-mul, mul-le-mul_left, mul-le-mul_right, le_of_mul-le-mul_right}
use native.Mathlib.Decide.{dec_le}
use native.Mathlib.Omega.{arith}
use lib.Dec.{T, leb→le, ltb→lt, lit≤}
use lib.Ieee.{Float, binary64, of_bits, add, mul, div, fits}
use lib.Ieee.Fits.{add-fits}
use lib.Ieee.Scale.{finite}
use Rattle.float.specs.Exact.{count, negative}
use Rattle.float.specs.Root.{square_root}
use Rattle.rounding.specs.Number.{Number, one, limit, plus_part, minus_part}
use Rattle.rounding.proofs.Laws.{one-pos, one-large, one-limit, plus-parts, minus-parts, add-operands, add-error-plus, mul-number, mul-error, div-number, div-error, sqrt-root, root-squared, root-pos, root-zero, lt-is, square-unsigned, add-unsigned, NotAbove, not-above, squares-keep, sums-keep, root-within-limit}
use Rattle.rounding.proofs.Close.{one-size}
use Rattle.trigonometry.specs.Sines.{sine}
use Rattle.trigonometry.proofs.Accuracy.{sine-answer, sine-near, cosine-near, sine-above-zero}
use Rattle.checks.proofs.NearOne.{Positive, positive, le-of-square}
use Rattle.law.specs.Rounded.{rounded}
use Rattle.law.specs.Vector as Vector
use Rattle.law.specs.Vector.{Vector}
use Rattle.linear.specs.declared.Quaternion.{Quaternion}
use Rattle.manifold.specs.Answers as Answers
use Rattle.so3.specs.Angles.{of_square, Accurate}
use Rattle.so3.specs.Elements.{sin_angle_squared}
use Rattle.so3.specs.Tangents.{theta_squared, leaves_series, turn_too_large, half, angle_of_half}
use Rattle.so3.specs.declared.Angle.{Angle}
use Rattle.so3.specs.declared.Tangent.{Tangent}

-- ---- the root of what is at most 9 is at most 3, since no number is nearer to the exact root, so it is within the reach of sine and cosine
abbrev three : Float
three = of_bits binary64 0x4008_0000_0000_0000

three-positive : Positive three
unfolding of_bits count negative fits
three-positive = positive tt

three-count : count three ≡ 3 * one
unfolding of_bits count one
three-count = refl

record Reached (v : Float) : Type 0 where
  number : Number v
  sign : negative v ≡ false
  most : count v ≤ 3 * one

reached : {t : Float} → Number t → negative t ≡ false → count t ≤ 9 * one → Reached (square_root t)
reached {t} N s h =
    elim (eq-zero-or-pos (count t)) [
      | inl e ↦ subst Reached (sym (root-zero t N e)) (record { number = N; sign = s; most = omega (arith, e) })
      | inr p ↦
          let R = sqrt-root N s p in
          record { number = R.number; sign = R.sign; most = at_most_3 (rw three-count at (R.nearest three-positive.number)).below }
    ]
  where
    apart : (r t o : ℕ) → (3 * o + r) * (3 * o + r) < 4 * (t * o) → 3 * o ≤ r → t ≤ 9 * o → ⊥
    apart r t o h g k = omega (arith, h, mul-le-mul_right o k, mul-le-mul g g, mul-le-mul_left o g)

    at_most_3 : let r = count (square_root t) in (3 * one < r → (3 * one + r) * (3 * one + r) < 4 * (count t * one)) → r ≤ 3 * one
    at_most_3 f = elim (dec_le (count (square_root t)) (3 * one)) [
      | yes m ↦ m
      | no m ↦ let g = lt_of_not-le m in absurd (apart (count (square_root t)) (count t) one (f g) (le_of_lt g) h)
    ]

to-4 : {v : Float} → Reached v → count v ≤ 4 * one
to-4 r = le_trans r.most (mul-le-mul_right one (lit≤ tt))

accurate : {t : Float} → Number t → negative t ≡ false → count t ≤ 9 * one → Accurate (of_square t)
unfolding of_square
accurate N s h = let r = reached N s h in record { sine = sine-near r.number (to-4 r); cosine = cosine-near r.number (to-4 r) }

-- ---- the limits of a turn and of a series
abbrev nine : Float
nine = of_bits binary64 0x4022_0000_0000_0000

nine-positive : Positive nine
unfolding of_bits count negative fits
nine-positive = positive tt

nine-count : count nine ≡ 9 * one
unfolding of_bits count one
nine-count = refl

abbrev least : Float
least = of_bits binary64 0x3ddb_7cdf_d9d7_bdbb

least-positive : Positive least
unfolding of_bits count negative fits
least-positive = positive tt

least-count : one ≤ 2 ^ 34 * count least
unfolding of_bits count one
least-count = leb→le _ _ tt

-- ---- what leaves the series is above the limit, so its root is above 2 ^ -18
beyond : {t : Float} → Number t → Answers.leaves_series t ≡ true → (negative t ≡ false) × (count least < count t)
unfolding Answers.leaves_series
beyond {t} N h = go (negative t) refl (ltb→lt _ _ (rw (← lt-is least-positive.number N, h) tt))
  where
    go : (s : Bool) → negative t ≡ s → plus_part least + minus_part t < plus_part t + minus_part least → (negative t ≡ false) × (count least < count t)
    go false e k = let p = plus-parts t e in let l = plus-parts least least-positive.sign in (e, omega (arith, k, l.0, l.1, p.0, p.1))
    go true e k = let p = minus-parts t e in let l = plus-parts least least-positive.sign in absurd (omega (arith, k, l.1, p.1))

root-some : {t : Float} → Number t → Answers.leaves_series t ≡ true → 0 < count (square_root t)
root-some N h = let b = beyond N h in root-pos N b.0 (lt_of_le_of_lt zero-le b.1)

root-least : {t : Float} → Number t → Answers.leaves_series t ≡ true → one ≤ 2 ^ 18 * count (square_root t)
root-least {t} N h =
    let b = beyond N h in
    go (count (square_root t)) (count t) (count least) one (root-squared (sqrt-root N b.0 (lt_of_le_of_lt zero-le b.1)).error).under b.1 least-count
  where
    go : (r t n o : ℕ) → 2 ^ 53 * (t * o) ≤ 2 ^ 53 * (r * r) + 3 * (r * r) → n < t → o ≤ 2 ^ 34 * n → o ≤ 2 ^ 18 * r
    go r t n o h k l = le-of-square o (2 ^ 18 * r) (omega (arith, h, mul-le-mul_right o (le_of_lt k), mul-le-mul_right o l))

-- the norm that log divides by, where it leaves the series
pub log-divisor-not-zero : (q : Quaternion) → Number (sin_angle_squared q) → Answers.leaves_series (sin_angle_squared q) ≡ true
    → 0 < count (square_root (sin_angle_squared q))
log-divisor-not-zero q N h = root-some N h

-- ---- half of a number: no larger than it, and 0 only where it is all but 0
record NoLarger (x y : Float) : Type 0 where
  number : Number x
  order : count x ≤ count y

abbrev two : Float
two = of_bits binary64 0x4000_0000_0000_0000

two-positive : Positive two
unfolding of_bits count negative fits
two-positive = positive tt

two-count : count two ≡ 2 * one
unfolding of_bits count one
two-count = refl

module _ {x : Float} (X : Number x) (s : T (finite (mul binary64 x x))) where
  abbrev h : Float
  h = div binary64 x two

  half-number : Number h
  half-number = div-number X two-positive.number two-positive.some (rw two-count (room (count x) one limit (root-within-limit X s)))
    where
      room : (x o l : ℕ) → x ≤ l → x * o ≤ l * (2 * o)
      room x o l k = omega (arith, mul-le-mul_right o k)

  halved : NoLarger h x
  halved = record { number = half-number; order = less (count x) (count h) one one-pos (rw two-count at (div-error X two-positive.number two-positive.some half-number.is_finite).over) }
    where
      less : (x h o : ℕ) → 0 < o → 2 ^ 53 * (h * (2 * o)) ≤ 2 ^ 53 * (x * o) + (x * o + 2 ^ 52 * (2 * o)) → h ≤ x
      less x h o p k = go (le_of_mul-le-mul_right {m = 2 ^ 54 * h} {n = 2 ^ 53 * x + x + 2 ^ 53} {k = o} (omega (arith, k)) p)
        where
          go : 2 ^ 54 * h ≤ 2 ^ 53 * x + x + 2 ^ 53 → h ≤ x
          go k = omega (arith, k)

  few : T (finite (mul binary64 h h)) → count (mul binary64 h h) ≡ 0 → count (mul binary64 x x) ≤ 64
  few t e =
      le_of_mul-le-mul_right {k = one}
      (last (count (mul binary64 x x) * one) (count x * count x) (count h * count h) one one-pos (mul-error X X s).over
      (squares (count x) (count h) one one-pos (rw two-count at (div-error X two-positive.number two-positive.some half-number.is_finite).under)) (rw e at (mul-error half-number half-number t).under))
      one-pos
    where
      self : (h : ℕ) → h ≤ h * h
      self zero = zero-le
      self (suc h) = omega arith

      squares : (x h o : ℕ) → 0 < o → 2 ^ 53 * (x * o) ≤ 2 ^ 53 * (h * (2 * o)) + (x * o + 2 ^ 52 * (2 * o)) → x * x ≤ 21 * (h * h) + 4
      squares x h o p k = go (le_of_mul-le-mul_right {m = 2 ^ 53 * x} {n = 2 ^ 54 * h + x + 2 ^ 53} {k = o} (omega (arith, k)) p)
        where
          go : 2 ^ 53 * x ≤ 2 ^ 54 * h + x + 2 ^ 53 → x * x ≤ 21 * (h * h) + 4
          go k = let l : x ≤ 3 * h + 2 = omega (arith, k) in omega (arith, mul-le-mul l l, self h)

      last : (a x h o : ℕ) → 0 < o → 2 ^ 53 * a ≤ 2 ^ 53 * x + (x + 2 ^ 52 * o) → x ≤ 21 * h + 4 → 2 ^ 53 * h ≤ 2 ^ 53 * (0 * o) + (h + 2 ^ 52 * o) → a ≤ 64 * o
      last a x h o p k l m = omega arith

-- ---- a number whose magnitude is from 1 / l to h, and the product of two such
record Sized (l h : ℕ) (x : Float) : Type 0 where
  number : Number x
  low : one ≤ l * count x
  high : count x ≤ h * one

times : {k l g h : ℕ} {x y : Float} → Sized k g x → Sized l h y → 2 * (k * l) ≤ one → g * h ≤ 2 ^ 90
    → Sized (2 * (k * l)) (2 * (g * h) + 1) (mul binary64 x y)
times {k} {l} {g} {h} {x} {y} X Y i j =
    let N = mul-number X.number Y.number (room (count x) (count y) g h one limit (mul-le-mul X.high Y.high) j one-limit) in
    let e = mul-error X.number Y.number N.is_finite in
    record {
      number = N;
      low = at-least (count (mul binary64 x y)) (count x * count y) (k * l) one one-pos e.under (crossed k l (count x) (count y) one (mul-le-mul X.low Y.low)) i;
      high = at-most (count (mul binary64 x y)) (count x * count y) (g * h) one one-pos e.over (spread g h (count x) (count y) one (mul-le-mul X.high Y.high));
    }
  where
    room : (a b g h o m : ℕ) → a * b ≤ g * o * (h * o) → g * h ≤ 2 ^ 90 → 2 ^ 100 * o ≤ m → a * b ≤ m * o
    room a b g h o m p q r = omega (arith, p, mul-le-mul_right (o * o) q, mul-le-mul_right o r)

    crossed : (k l a b o : ℕ) → o * o ≤ k * a * (l * b) → o * o ≤ k * l * (a * b)
    crossed k l a b o p = omega (arith, p)

    spread : (g h a b o : ℕ) → a * b ≤ g * o * (h * o) → a * b ≤ g * h * (o * o)
    spread g h a b o p = omega (arith, p)

    -- K is k l, P the exact product
    at-least : (z P K o : ℕ) → 0 < o → 2 ^ 53 * P ≤ 2 ^ 53 * (z * o) + (P + 2 ^ 52 * o) → o * o ≤ K * P → 2 * K ≤ o → o ≤ 2 * K * z
    at-least z P K o q e p i = le_of_mul-le-mul_right {k = o} (omega (arith, mul-le-mul_left K e, p, mul-le-mul_right o i)) q

    at-most : (z P G o : ℕ) → 0 < o → 2 ^ 53 * (z * o) ≤ 2 ^ 53 * P + (P + 2 ^ 52 * o) → P ≤ G * (o * o) → z ≤ (2 * G + 1) * o
    at-most z P G o q e p = le_of_mul-le-mul_right {k = o} (omega (arith, e, p, mul-le-mul_right o q)) q

some : {l h : ℕ} {x : Float} → Sized l h x → 0 < count x
some {l} {h} {x} s = elim (eq-zero-or-pos (count x)) [ inl e ↦ absurd (none l (count x) one s.low e one-pos) | inr p ↦ p ]
  where
    none : (l c o : ℕ) → o ≤ l * c → c ≡ 0 → 0 < o → ⊥
    none l c o h e p = omega (arith, h, p, ap (λ (x : ℕ). l * x) e)

two-size : Sized 1 2 two
two-size = record { number = two-positive.number; low = rw two-count (omega arith); high = le_of_eq two-count }

sine-size : {v : Float} → Reached v → one ≤ 2 ^ 18 * count v → Sized (34 * 2 ^ 18) 32 (sine v)
sine-size {v} r l =
    let a = sine-answer r.number (to-4 r) in
    let s = sine-above-zero r.number (to-4 r) r.sign l r.most in
    record { number = a.number; low = omega (arith, l, s.1); high = omega (arith, a.size, one-size) }

-- ---- the theorems
module _ (a : Tangent) (X : Number a.theta.x) (Y : Number a.theta.y) (Z : Number a.theta.z) (turn : turn_too_large a ≡ false) where
  abbrev square : Float → Float
  square x = mul binary64 x x

  -- what the squared norm is made of, for a vector v of which no value is larger than theta's
  record Kept (v : Vector Float) : Type 0 where
    x : NotAbove (square v.x) (square a.theta.x)
    y : NotAbove (square v.y) (square a.theta.y)
    z : NotAbove (square v.z) (square a.theta.z)
    xy : NotAbove (add binary64 (square v.x) (square v.y)) (add binary64 (square a.theta.x) (square a.theta.y))
    all : NotAbove (Vector.norm_squared rounded v) (theta_squared a)

  -- a sum of squares is no NaN, so what is not above 9 is finite
  within : NotAbove (theta_squared a) nine
  unfolding theta_squared turn_too_large Answers.turn_too_large Vector.norm_squared
  within = not-above (add-unsigned (add-unsigned (square-unsigned X) (square-unsigned Y)) (square-unsigned Z)) (add-fits binary64 _ _) nine-positive.number nine-positive.sign turn

  record Squares : Type 0 where
    x : T (finite (square a.theta.x))
    y : T (finite (square a.theta.y))
    z : T (finite (square a.theta.z))
    xy : T (finite (add binary64 (square a.theta.x) (square a.theta.y)))

  squares : Squares
  unfolding theta_squared Vector.norm_squared
  squares = let p = add-operands _ _ within.left.is_finite in let q = add-operands _ _ p.0 in record { x = q.0; y = q.1; z = p.1; xy = p.0 }

  keep : {v : Vector Float} → NoLarger v.x a.theta.x → NoLarger v.y a.theta.y → NoLarger v.z a.theta.z → Kept v
  unfolding theta_squared Vector.norm_squared
  keep A B C =
      let s = squares in
      let x = squares-keep A.number X A.order s.x in
      let y = squares-keep B.number Y B.order s.y in
      let z = squares-keep C.number Z C.order s.z in
      let xy = sums-keep x y s.xy in
      record { x = x; y = y; z = z; xy = xy; all = sums-keep xy z within.left.is_finite }

  halves : Kept (half a)
  unfolding Vector.divide
  halves = let s = squares in keep (halved X s.x) (halved Y s.y) (halved Z s.z)

  pub angle-accurate : Accurate (of_square (theta_squared a))
  angle-accurate = accurate within.left within.left-sign (le_trans within.order (le_of_eq nine-count))

  pub half-accurate : Accurate (angle_of_half a)
  half-accurate = let k = halves.all in accurate k.left k.left-sign (le_trans k.order (le_trans within.order (le_of_eq nine-count)))

  -- above the limit of the series
  module _ (closed : leaves_series a ≡ true) where
    above : count least < count (theta_squared a)
    unfolding leaves_series
    above = (beyond within.left closed).1

    pub angle-not-zero : 0 < count (of_square (theta_squared a)).angle
    unfolding of_square leaves_series
    angle-not-zero = root-some within.left closed

    abbrev w : Angle
    w = of_square (theta_squared a)

    pub squared-not-zero : 0 < count w.squared
    unfolding of_square
    squared-not-zero = lt_of_le_of_lt zero-le above

    root : Reached w.angle
    unfolding of_square
    root = reached within.left within.left-sign (le_trans within.order (le_of_eq nine-count))

    angle-size : Sized (2 ^ 18) 3 w.angle
    unfolding of_square leaves_series
    angle-size = record { number = root.number; low = root-least within.left closed; high = root.most }

    pub angle-sine-positive : (negative w.sine ≡ false) × (0 < count w.sine)
    unfolding of_square
    angle-sine-positive = ((sine-above-zero root.number (to-4 root) root.sign angle-size.low root.most).0, some (sine-size root angle-size.low))

    -- what the inverse Jacobian divides by, beside the square
    pub divisor-not-zero : let divisor = mul binary64 (mul binary64 two w.angle) w.sine in Number divisor × (0 < count divisor)
    unfolding of_square
    divisor-not-zero =
        let d = times (times two-size angle-size (most (lit≤ tt)) (lit≤ tt)) (sine-size root angle-size.low) (most (lit≤ tt)) (lit≤ tt) in
        (d.number, some d)
      where
        most : {k : ℕ} → k ≤ 2 ^ 120 → k ≤ one
        most h = le_trans h one-large

    none : count (Vector.norm_squared rounded (half a)) ≡ 0 → ⊥
    unfolding theta_squared Vector.divide Vector.norm_squared
    none e =
        let s = squares in
        let k = halves in
        let c = zeros _ _ _ (add-error-plus k.xy.left k.z.left k.xy.left-sign k.z.left-sign k.all.left.is_finite).under e in
        let d = zeros _ _ _ (add-error-plus k.x.left k.y.left k.x.left-sign k.y.left-sign k.xy.left.is_finite).under c.0 in
        small _ _ _ _ _ _ _ (few X s.x k.x.left.is_finite d.0) (few Y s.y k.y.left.is_finite d.1) (few Z s.z k.z.left.is_finite c.1)
        (add-error-plus k.x.right k.y.right k.x.right-sign k.y.right-sign s.xy).over
        (add-error-plus k.xy.right k.z.right k.xy.right-sign k.z.right-sign within.left.is_finite).over
        above least-count one-large
      where
        zeros : (x y z : ℕ) → 2 ^ 53 * (x + y) ≤ 2 ^ 53 * z + (x + y) → z ≡ 0 → (x ≡ 0) × (y ≡ 0)
        zeros x y z h e = (omega arith, omega arith)

        small : (x y z xy t n o : ℕ) → x ≤ 64 → y ≤ 64 → z ≤ 64 → 2 ^ 53 * xy ≤ 2 ^ 53 * (x + y) + (x + y) → 2 ^ 53 * t ≤ 2 ^ 53 * (xy + z) + (xy + z)
            → n < t → o ≤ 2 ^ 34 * n → 2 ^ 120 ≤ o → ⊥
        small x y z xy t n o h i j k l m p q = omega arith

    pub half-not-zero : 0 < count (angle_of_half a).angle
    unfolding of_square
    half-not-zero = let k = halves.all in root-pos k.left k.left-sign (elim (eq-zero-or-pos _) [ inl e ↦ absurd (none e) | inr p ↦ p ])
