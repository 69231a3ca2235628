-- A squared norm from 1 - t to 1 + t passes the check at a tolerance t of 2 ^ -40 to 1 / 1024: its root is within 3 / 4 * t of 1, which leaves room for
-- all that is rounded, the two bounds and the difference from 1 among it.
-- Assumes nothing.
use Prim.Native.Nat.{ℕ, ◌+◌, ◌*◌, ◌^◌, ◌≤◌, ◌<◌}
use mathlib.Core.Path.{◌≡◌, refl, sym, ◌∙◌, subst}
use mathlib.Core.Bool.{Bool, true, false, not, ◌&&◌}
use native.Mathlib.Nat.{le_trans, lt_of_lt_of_le, mul-le-mul_right}
use native.Mathlib.Omega.{arith}
use lib.Dec.{T, ltb, leb, ltb→lt, lt→ltb, leb→le, lit≤}
use lib.Arith.{le→nltb}
use lib.Ieee.{Float, nan, inf, fin, binary64, of_bits, add, sub, lt, le, eq, fits}
use lib.Ieee.Bits.{is_true, is_false}
use lib.Ieee.Fits.{and_l, and_r}
use lib.Ieee.Scale.{finite}
use Rattle.float.specs.Exact.{count, negative, abs}
use Rattle.whole_roots.specs.Roots.{square}
use Rattle.whole_roots.proofs.Squares.{square-lt}
use Rattle.float.specs.Root.{square_root}
use Rattle.rounding.specs.Number.{Number, one, limit, plus_part, minus_part}
use Rattle.rounding.specs.Error.{Within}
use Rattle.rounding.proofs.Laws.{plus-parts, minus-parts, zero64, zero-number, zero-sign, zero-count, magnitude-number, magnitude-sign, magnitude-count, one-pos, one-limit, add-number, add-sign, add-error-plus, sub_number, sub_parts, sqrt-root, root-squared, lt-plain, le_is}
use Rattle.checks.specs.Checks.{passed, permitted, check_tolerance, check_norm}

-- ---- a number above zero, and one between two others
pub record Positive (x : Float) : Type 0 where
  pub number : Number x
  pub sign : negative x ≡ false
  pub some : 0 < count x

-- the same as a test, which computes for a constant
abbrev pub is_positive : Float → Bool
is_positive x = (fits binary64 x && finite x) && (not (negative x) && ltb 0 (count x))

pub positive : {x : Float} → T (is_positive x) → Positive x
positive {x} t =
    let l = and_l (fits binary64 x && finite x) (not (negative x) && ltb 0 (count x)) t in
    let r = and_r (fits binary64 x && finite x) (not (negative x) && ltb 0 (count x)) t in
    record {
      number = record { is_binary64 = and_l (fits binary64 x) (finite x) l; is_finite = and_r (fits binary64 x) (finite x) l };
      sign = is_false (negative x) (and_l (not (negative x)) (ltb 0 (count x)) r);
      some = ltb→lt 0 (count x) (and_r (not (negative x)) (ltb 0 (count x)) r);
    }

record Between (a b x : Float) : Type 0 where
  positive : Positive x
  low : count a ≤ count x
  high : count x ≤ count b

between-finite : (a b x : Float) → T (finite a) → T (finite b) → T (le a x) → T (le x b) → T (finite x)
unfolding le lt eq
between-finite nan b x A B h k = absurd A
between-finite (inf s) b x A B h k = absurd A
between-finite (fin s m e) nan x A B h k = absurd B
between-finite (fin s m e) (inf t) x A B h k = absurd B
between-finite (fin s m e) (fin t n d) nan A B h k = absurd h
between-finite (fin s m e) (fin t n d) (inf true) A B h k = absurd h
between-finite (fin s m e) (fin t n d) (inf false) A B h k = absurd k
between-finite (fin s m e) (fin t n d) (fin u l c) A B h k = tt

parts-le : {x y : Float} → Number x → Number y → T (le x y) → plus_part x + minus_part y ≤ plus_part y + minus_part x
parts-le {x} {y} X Y h = leb→le (plus_part x + minus_part y) (plus_part y + minus_part x) (subst T (le_is X Y) h)

between : {a b x : Float} → Positive a → Positive b → T (fits binary64 x) → T (le a x) → T (le x b) → Between a b x
between {a} {b} {x} A B t h k = go (negative x) refl
  where
    X : Number x
    X = record { is_binary64 = t; is_finite = between-finite a b x A.number.is_finite B.number.is_finite h k }

    plain : negative x ≡ false → Between a b x
    plain e =
        let p = plus-parts a A.sign in
        let q = plus-parts b B.sign in
        let r = plus-parts x e in
        let l : count a ≤ count x = low _ _ _ _ _ _ (parts-le A.number X h) p r in
        record {
          positive = record { number = X; sign = e; some = lt_of_lt_of_le A.some l };
          low = l;
          high = low _ _ _ _ _ _ (parts-le X B.number k) r q;
        }
      where
        low : (p m q n c d : ℕ) → p + n ≤ q + m → (p ≡ c) × (m ≡ 0) → (q ≡ d) × (n ≡ 0) → c ≤ d
        low p m q n c d h e f = omega arith

    none : (p m q n c : ℕ) → p + n ≤ q + m → (p ≡ c) × (m ≡ 0) → q ≡ 0 → 0 < c → ⊥
    none p m q n c h e f k = omega arith

    go : (s : Bool) → negative x ≡ s → Between a b x
    go false e = plain e
    go true e = absurd (none _ _ _ _ _ (parts-le A.number X h) (plus-parts a A.sign) (minus-parts x e).1 A.some)

-- ---- the check's 1 and the largest tolerance, 1 / 1024
abbrev pub one64 : Float
one64 = of_bits binary64 0x3ff0_0000_0000_0000

pub one64-positive : Positive one64
unfolding of_bits count negative fits
one64-positive = positive tt

pub one64-count : count one64 ≡ one
unfolding of_bits count one
one64-count = refl

abbrev pub most64 : Float
most64 = of_bits binary64 0x3f50_0000_0000_0000

pub most64-positive : Positive most64
unfolding of_bits count negative fits
most64-positive = positive tt

pub most64-count : 2 ^ 10 * count most64 ≡ one
unfolding of_bits count one
most64-count = refl

-- ---- a tolerance from 2 ^ -40 to 1 / 1024, and what is asked of the constants that bound it: each is a test that computes
record Moderate (t : Float) : Type 0 where
  positive : Positive t
  least : one ≤ 2 ^ 40 * count t
  most : count t ≤ count most64

pub record Bounds (c d : Float) : Type 0 where
  pub low : T (is_positive c)
  pub high : T (is_positive d)
  pub least : T (leb one (2 ^ 40 * count c))
  pub most : T (leb (count d) (count most64))

moderate : {c d t : Float} → Bounds c d → Between c d t → Moderate t
moderate {c} {d} {t} B H =
    record {
      positive = H.positive;
      least = least (count t) (count c) one H.low (leb→le _ _ B.least);
      most = le_trans H.high (leb→le _ _ B.most);
    }
  where
    least : (t c o : ℕ) → c ≤ t → o ≤ 2 ^ 40 * c → o ≤ 2 ^ 40 * t
    least t c o h k = omega arith

small : {t : Float} → Moderate t → 2 ^ 10 * count t ≤ one
small {t} A = over (count t) (count most64) one A.most most64-count
  where
    over : (t m o : ℕ) → t ≤ m → 2 ^ 10 * m ≡ o → 2 ^ 10 * t ≤ o
    over t m o h e = omega arith

is-permitted : {t : Float} → Moderate t → permitted t ≡ true
unfolding permitted
is-permitted {t} A =
    let P = A.positive in
    let M = most64-positive in
    let above : lt zero64 t ≡ true = lt-plain zero-number P.number zero-sign P.sign ∙ rw zero-count (is_true (ltb 0 (count t)) (lt→ltb 0 (count t) P.some)) in
    let under : lt most64 t ≡ false = lt-plain M.number P.number M.sign P.sign ∙ is_false (ltb (count most64) (count t)) (le→nltb (count most64) (count t) A.most) in
    rw (is_true (finite t) P.number.is_finite, above, under)

-- ---- over counts: o is 1, t the tolerance, s the squared norm, r its root, d the magnitude of the difference of r and 1
-- what a rounding changes, c / 2 ^ 53, is at most t / 2 ^ 10
coarse : (a b c t : ℕ) → 2 ^ 53 * a ≤ 2 ^ 53 * b + c → c ≤ 2 ^ 43 * t → 2 ^ 10 * a ≤ 2 ^ 10 * b + t
coarse a b c t h k = omega arith

pub le-of-square : (a b : ℕ) → square a ≤ square b → a ≤ b
le-of-square a b h = let g = square-lt a (b + 1) (omega arith) in omega arith

-- R and O are the squares of r and o, n is s * o and x is t * o
square-size : (R n O x : ℕ) → 2 ^ 53 * R ≤ 2 ^ 53 * n + 3 * R → 2 ^ 10 * n ≤ 2 ^ 10 * (O + x) + x → O ≤ 2 ^ 40 * x → 2 ^ 10 * x ≤ O → 3 * R ≤ 2 ^ 43 * x
square-size R n O x h k l m = let p : 4 * R ≤ 5 * n = omega (arith, h) in let q : 4 * n ≤ 5 * O = omega (arith, k, m) in omega (arith, p, q, l)

square-over : (R n O x : ℕ) → 2 ^ 10 * R ≤ 2 ^ 10 * n + x → 2 ^ 10 * n ≤ 2 ^ 10 * (O + x) + x → 4 * R ≤ 4 * O + 5 * x
square-over R n O x h k = omega arith

square-under : (R n O x : ℕ) → 2 ^ 10 * n ≤ 2 ^ 10 * R + x → 2 ^ 10 * O ≤ 2 ^ 10 * (n + x) + x → 4 * O ≤ 4 * R + 5 * x
square-under R n O x h k = omega arith

root_over : (r o t : ℕ) → 4 * square r ≤ 4 * square o + 5 * (t * o) → 4 * r ≤ 4 * o + 3 * t
root_over r o t h = le-of-square (4 * r) (4 * o + 3 * t) (omega arith)

root-under : (r o t : ℕ) → 4 * square o ≤ 4 * square r + 5 * (t * o) → 2 ^ 10 * (t * o) ≤ square o → 4 * o ≤ 4 * r + 3 * t
root-under r o t h k =
    let l = le-of-square (5 * o) (6 * r) (omega arith) in
    le-of-square (4 * o) (4 * r + 3 * t) (omega (arith, mul-le-mul_right t l))

difference-over : (r o d t : ℕ) → 2 ^ 10 * (d + (0 + o)) ≤ 2 ^ 10 * (0 + (r + 0)) + t → 4 * r ≤ 4 * o + 3 * t → d ≤ t
difference-over r o d t h k = omega arith

difference-under : (r o d t : ℕ) → 2 ^ 10 * (d + (r + 0)) ≤ 2 ^ 10 * (0 + (0 + o)) + t → 4 * o ≤ 4 * r + 3 * t → d ≤ t
difference-under r o d t h k = omega arith

-- ---- 1 - t and 1 + t, rounded
record Around (t : Float) : Type 0 where
  below : Positive (sub binary64 one64 t)
  above : Positive (add binary64 one64 t)
  low : 2 ^ 10 * one ≤ 2 ^ 10 * (count (sub binary64 one64 t) + count t) + count t
  high : 2 ^ 10 * count (add binary64 one64 t) ≤ 2 ^ 10 * (one + count t) + count t

within-limit : {n : ℕ} → n ≤ 4 * one → n ≤ limit
within-limit h = le_trans h (le_trans (mul-le-mul_right one (lit≤ tt)) one-limit)

around : {t : Float} → Moderate t → Around t
around {t} A =
    record {
      below = record { number = L; sign = low-sign; some = low-some (count (sub binary64 one64 t)) (count t) one low (small A) one-pos };
      above = record { number = H; sign = add-sign N A.positive.number one64-positive.sign A.positive.sign H.is_finite; some = high-some _ (count t) one high.under A.positive.some };
      low = low;
      high = high.over;
    }
  where
    N : Number one64
    N = one64-positive.number

    room : (o t : ℕ) → 2 ^ 10 * t ≤ o → o + t ≤ 4 * o
    room o t h = omega arith

    sum-limit : count one64 + count t ≤ limit
    sum-limit = rw one64-count (within-limit (room one (count t) (small A)))

    L : Number (sub binary64 one64 t)
    L = sub_number N A.positive.number sum-limit

    H : Number (add binary64 one64 t)
    H = add-number N A.positive.number sum-limit

    change : one + count t ≤ 2 ^ 43 * count t
    change = size one (count t) A.least
      where
        size : (o t : ℕ) → o ≤ 2 ^ 40 * t → o + t ≤ 2 ^ 43 * t
        size o t h = omega arith

    high : Within (2 ^ 10 * count (add binary64 one64 t)) (2 ^ 10 * (one + count t)) (count t)
    high =
        let w = rw one64-count at (add-error-plus N A.positive.number one64-positive.sign A.positive.sign H.is_finite) in
        record { over = coarse _ _ _ _ w.over change; under = coarse _ _ _ _ w.under change }

    high-some : (h t o : ℕ) → 2 ^ 10 * (o + t) ≤ 2 ^ 10 * h + t → 0 < t → 0 < h
    high-some h t o k l = omega arith

    low_parts : 2 ^ 10 * (minus_part (sub binary64 one64 t) + (one + 0)) ≤ 2 ^ 10 * (plus_part (sub binary64 one64 t) + (0 + count t)) + count t
    low_parts =
        let p = plus-parts one64 one64-positive.sign in
        let q = plus-parts t A.positive.sign in
        coarse _ _ _ _ (rw (p.0, p.1, q.0, q.1, one64-count) at (sub_parts N A.positive.number L.is_finite)).under change

    low-sign : negative (sub binary64 one64 t) ≡ false
    low-sign = go (negative (sub binary64 one64 t)) refl
      where
        none : (l t o : ℕ) → 2 ^ 10 * (l + (o + 0)) ≤ 2 ^ 10 * (0 + (0 + t)) + t → 2 ^ 10 * t ≤ o → 0 < o → ⊥
        none l t o h k m = omega arith

        go : (s : Bool) → negative (sub binary64 one64 t) ≡ s → negative (sub binary64 one64 t) ≡ false
        go false e = e
        go true e = let p = minus-parts (sub binary64 one64 t) e in absurd (none _ (count t) one (rw (p.0, p.1) at low_parts) (small A) one-pos)

    low : 2 ^ 10 * one ≤ 2 ^ 10 * (count (sub binary64 one64 t) + count t) + count t
    low = let p = plus-parts (sub binary64 one64 t) low-sign in plain _ (count t) one (rw (p.0, p.1) at low_parts)
      where
        plain : (l t o : ℕ) → 2 ^ 10 * (0 + (o + 0)) ≤ 2 ^ 10 * (l + (0 + t)) + t → 2 ^ 10 * o ≤ 2 ^ 10 * (l + t) + t
        plain l t o h = omega arith

    low-some : (l t o : ℕ) → 2 ^ 10 * o ≤ 2 ^ 10 * (l + t) + t → 2 ^ 10 * t ≤ o → 0 < o → 0 < l
    low-some l t o h k m = omega arith

-- ---- the rounded difference of the root and 1
record NearOne (r t : Float) : Type 0 where
  number : Number (sub binary64 r one64)
  size : count (sub binary64 r one64) ≤ count t

near-one : {r t : Float} → Positive r → Moderate t → 4 * count r ≤ 4 * one + 3 * count t → 4 * one ≤ 4 * count r + 3 * count t → NearOne r t
near-one {r} {t} R A h k = record { number = D; size = go (negative d) refl }
  where
    d : Float
    d = sub binary64 r one64

    room : (r o t : ℕ) → 4 * r ≤ 4 * o + 3 * t → 2 ^ 10 * t ≤ o → r + o ≤ 4 * o
    room r o t h k = omega arith

    D : Number d
    D = sub_number R.number one64-positive.number (rw one64-count (within-limit (room (count r) one (count t) h (small A))))

    change : (r o t : ℕ) → 4 * r ≤ 4 * o + 3 * t → o ≤ 2 ^ 40 * t → r + o ≤ 2 ^ 43 * t
    change r o t h k = omega arith

    error : Within (2 ^ 10 * (plus_part d + (0 + one))) (2 ^ 10 * (minus_part d + (count r + 0))) (count t)
    error =
        let p = plus-parts r R.sign in
        let q = plus-parts one64 one64-positive.sign in
        let w = rw (p.0, p.1, q.0, q.1, one64-count) at (sub_parts R.number one64-positive.number D.is_finite) in
        let c = change (count r) one (count t) h A.least in
        record { over = coarse _ _ _ _ w.over c; under = coarse _ _ _ _ w.under c }

    go : (s : Bool) → negative d ≡ s → count d ≤ count t
    go false e = let p = plus-parts d e in difference-over (count r) one (count d) (count t) (rw (p.0, p.1) at error.over) h
    go true e = let p = minus-parts d e in difference-under (count r) one (count d) (count t) (rw (p.0, p.1) at error.under) k

-- ---- a tolerance is not below the magnitude of a number that is no larger
not-below : {t d : Float} → Positive t → Number d → count d ≤ count t → lt t (abs d) ≡ false
not-below {t} {d} A D h = lt-plain A.number (magnitude-number D) A.sign (magnitude-sign d) ∙ rw (magnitude-count d) (is_false (ltb (count t) (count d)) (le→nltb (count t) (count d) h))

-- ---- the check
passes : {s t : Float} → Moderate t → Between (sub binary64 one64 t) (add binary64 one64 t) s → check_norm (square_root s) t ≡ passed
unfolding check_norm check_tolerance
passes {s} {t} A S =
    let R = sqrt-root S.positive.number S.positive.sign S.positive.some in
    let w = root-squared R.error in
    let m = small-square (count t) one (small A) in
    let a = at_most (count s) _ (count t) one S.high (around A).high in
    let b = at_least (count s) _ (count t) one S.low (around A).low in
    let c = square-size _ _ _ _ w.over a (large-square (count t) one A.least) m in
    let o = root_over (count (square_root s)) one (count t) (square-over _ _ _ _ (coarse _ _ _ _ w.over c) a) in
    let u = root-under (count (square_root s)) one (count t) (square-under _ _ _ _ (coarse _ _ _ _ w.under c) b) m in
    let N = near-one (record { number = R.number; sign = R.sign; some = some _ _ _ u (small A) one-pos }) A o u in
    rw (is_true (finite (square_root s)) R.number.is_finite, is-permitted A, not-below A.positive N.number N.size)
  where
    large-square : (t o : ℕ) → o ≤ 2 ^ 40 * t → square o ≤ 2 ^ 40 * (t * o)
    large-square t o h = omega (arith, mul-le-mul_right o h)

    small-square : (t o : ℕ) → 2 ^ 10 * t ≤ o → 2 ^ 10 * (t * o) ≤ square o
    small-square t o h = omega (arith, mul-le-mul_right o h)

    at_most : (s h t o : ℕ) → s ≤ h → 2 ^ 10 * h ≤ 2 ^ 10 * (o + t) + t → 2 ^ 10 * (s * o) ≤ 2 ^ 10 * (square o + t * o) + t * o
    at_most s h t o k l = omega (arith, mul-le-mul_right o k, mul-le-mul_right o l)

    at_least : (s l t o : ℕ) → l ≤ s → 2 ^ 10 * o ≤ 2 ^ 10 * (l + t) + t → 2 ^ 10 * square o ≤ 2 ^ 10 * (s * o + t * o) + t * o
    at_least s l t o h k = omega (arith, mul-le-mul_right o h, mul-le-mul_right o k)

    some : (r o t : ℕ) → 4 * o ≤ 4 * r + 3 * t → 2 ^ 10 * t ≤ o → 0 < o → 0 < r
    some r o t h k l = omega arith

pub passes-without-root : (c d s t : Float) → T (fits binary64 s) → T (fits binary64 t)
    → ((le (sub binary64 one64 t) s && le s (add binary64 one64 t)) && (le c t && le t d)) ≡ true → Bounds c d → check_norm (square_root s) t ≡ passed
passes-without-root c d s t S H e B =
    let a = le (sub binary64 one64 t) s in
    let b = le s (add binary64 one64 t) in
    let h : T ((a && b) && (le c t && le t d)) = subst T (sym e) tt in
    let l = and_l (a && b) (le c t && le t d) h in
    let r = and_r (a && b) (le c t && le t d) h in
    let A = moderate B (between (positive B.low) (positive B.high) H (and_l (le c t) (le t d) r) (and_r (le c t) (le t d) r)) in
    passes A (between (around A).below (around A).above S (and_l a b l) (and_r a b l))
