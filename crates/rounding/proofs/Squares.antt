-- Squares of numbers, and sums of such: neither a NaN nor with a minus sign, and no larger for operands that are no larger. Assumes nothing.
use mathlib.Core.Path.{◌≡◌, refl, sym, subst}
use mathlib.Core.Bool.{Bool, true, false, cond, true≢false}
use Prim.Native.Nat.{ℕ, zero, suc, ◌+◌, ◌*◌, ◌^◌, ◌≤◌, ◌<◌}
use native.Mathlib.Nat.{le_of_lt, lt_of_not-le, mul-le-mul, mul-le-mul_right}
use native.Mathlib.Decide.{dec_le}
use native.Mathlib.Omega.{arith}
use lib.Count.{count_trailing_zeros}
use lib.Dec.{T, not_T, ltb, nltb→le}
use lib.Pow.{pow_pos}
use lib.IntN.{ℤ}
use lib.Ieee.{Float, nan, inf, fin, binary64, unlike, up, down, of_fields, size, span, climb, odd, units, round, sum, add, mul, lt, le, fits}
use lib.Ieee.Bits.{is_false}
use lib.Ieee.Fits.{round_is, round-fits, inf-fits, mul-fits}
use lib.Ieee.Order.{round_mono}
use lib.Ieee.Scale.{finite}
use Rattle.std.proofs.lemmas.Float.{lt_irrefl, lt_of_lt_of_le}
use Rattle.float.specs.Exact.{count, negative}
use Rattle.rounding.specs.Number.{Number, limit}
use Rattle.rounding.proofs.Counts.{add_is, mul_is}
use Rattle.rounding.proofs.Order.{lt-plain}

-- ---- neither a NaN nor with a minus sign
pub data Unsigned : Float → Type 0 where
  infinite : Unsigned (inf false)
  number : (m : ℕ) (e : ℤ) → Unsigned (fin false m e)

unsigned-sign : {x : Float} → Unsigned x → negative x ≡ false
unfolding negative
unsigned-sign infinite = refl
unsigned-sign (number m e) = refl

round-unsigned : (n d : ℕ) → Unsigned (round binary64 false n d)
round-unsigned n d = subst Unsigned (sym (round_is binary64 false n d)) (of-units _ _)
  where
    of-odd : (q k : ℕ) → Unsigned (odd 54 false q k 1074)
    of-odd zero k = unfold odd in number _ _
    of-odd (suc q) k = unfold odd in number _ _

    of-units : (q k : ℕ) → Unsigned (units binary64 false q k)
    of-units q k = unfold units in pick (ltb (q * 2 ^ k) (2 ^ 2098)) (of-odd q k)
      where
        pick : (b : Bool) {x : Float} → Unsigned x → Unsigned (cond b x (inf false))
        pick true h = h
        pick false h = infinite

pub unlike-self : (s : Bool) → unlike s s ≡ false
unlike-self true = refl
unlike-self false = refl

square-is : {x : Float} → Number x → mul binary64 x x ≡ round binary64 false (count x * count x) (2 ^ 2148)
square-is {x} X = rw (mul_is X X, unlike-self (negative x)) refl

pub square-unsigned : {x : Float} → Number x → Unsigned (mul binary64 x x)
square-unsigned {x} X = rw (square-is X) (round-unsigned (count x * count x) (2 ^ 2148))

pub add-unsigned : {x y : Float} → Unsigned x → Unsigned y → Unsigned (add binary64 x y)
unfolding add sum
add-unsigned infinite infinite = infinite
add-unsigned infinite (number n d) = infinite
add-unsigned (number m e) infinite = infinite
add-unsigned (number m e) (number n d) = round-unsigned (m * up e * down d + n * up d * down e) (down e * down d)

not-less : (x y : Float) → T (le x y) → lt y x ≡ false
not-less x y h = is_false (lt y x) (not_T (lt y x) (λ l. lt_irrefl y (lt_of_lt_of_le y x y l h)))

-- ---- x and y are numbers, neither with a minus sign, and x is not above y
pub record NotAbove (x y : Float) : Type 0 where
  pub left : Number x
  pub right : Number y
  pub left-sign : negative x ≡ false
  pub right-sign : negative y ≡ false
  pub order : count x ≤ count y

-- what is not above a number is one
finite-up-to : {x : Float} (y : Float) → Unsigned x → T (finite y) → lt y x ≡ false → T (finite x)
unfolding lt
finite-up-to nan infinite t h = t
finite-up-to (inf s) infinite t h = t
finite-up-to (fin s m e) infinite t h = absurd (true≢false h)
finite-up-to y (number m e) t h = tt

pub not-above : {x y : Float} → Unsigned x → T (fits binary64 x) → Number y → negative y ≡ false → lt y x ≡ false → NotAbove x y
not-above {x} {y} U f Y s h =
    let X : Number x = record { is_binary64 = f; is_finite = finite-up-to y U Y.is_finite h } in
    let r = unsigned-sign U in
    record { left = X; right = Y; left-sign = r; right-sign = s; order = nltb→le _ _ (rw (← lt-plain Y X s r, h) tt) }

rounds-keep : (a c d : ℕ) → 0 < d → a ≤ c → T (finite (round binary64 false c d)) → NotAbove (round binary64 false a d) (round binary64 false c d)
rounds-keep a c d p h t =
    let Y : Number (round binary64 false c d) = record { is_binary64 = round-fits binary64 false c d; is_finite = t } in
    not-above (round-unsigned a d) (round-fits binary64 false a d) Y (unsigned-sign (round-unsigned c d)) (not-less _ _ (round_mono binary64 a d c d p p (mul-le-mul_right d h)))

pub squares-keep : {x y : Float} → Number x → Number y → count x ≤ count y → T (finite (mul binary64 y y)) → NotAbove (mul binary64 x x) (mul binary64 y y)
squares-keep {x} {y} X Y h t =
    rw (square-is X, square-is Y) (rounds-keep (count x * count x) (count y * count y) (2 ^ 2148) (pow_pos 2148) (mul-le-mul h h) (rw (square-is Y) at t))

pub sums-keep : {x y v w : Float} → NotAbove x y → NotAbove v w → T (finite (add binary64 y w)) → NotAbove (add binary64 x v) (add binary64 y w)
unfolding sum
sums-keep {x} {y} {v} {w} A B t =
    let r = is A.right B.right A.right-sign B.right-sign in
    rw (is A.left B.left A.left-sign B.left-sign, r)
    (rounds-keep (count x + count v) (count y + count w) (2 ^ 1074) (pow_pos 1074) (both (count x) (count y) (count v) (count w) A.order B.order) (rw r at t))
  where
    is : {x y : Float} → Number x → Number y → negative x ≡ false → negative y ≡ false → add binary64 x y ≡ round binary64 false (count x + count y) (2 ^ 1074)
    is X Y p q = rw (add_is X Y, p, q) refl

    both : (a b c d : ℕ) → a ≤ b → c ≤ d → a + c ≤ b + d
    both a b c d h k = omega arith

-- ---- the square of what is above the limit is an infinity
limit-square : round binary64 false (limit * limit) (2 ^ 2148) ≡ inf false
unfolding limit round size span climb odd units count_trailing_zeros of_fields
limit-square = refl

pub root-within-limit : {x : Float} → Number x → T (finite (mul binary64 x x)) → count x ≤ limit
root-within-limit {x} X t = go (dec_le (count x) limit)
  where
    Y : Number (mul binary64 x x)
    Y = record { is_binary64 = mul-fits binary64 x x; is_finite = t }

    above : limit ≤ count x → T (le (inf false) (mul binary64 x x))
    above h =
        let d = 2 ^ 2148 in
        rw (square-is X, ← limit-square) (round_mono binary64 (limit * limit) d (count x * count x) d (pow_pos 2148) (pow_pos 2148) (mul-le-mul_right d (mul-le-mul h h)))

    go : Dec (count x ≤ limit) → count x ≤ limit
    go (yes h) = h
    go (no n) = absurd (not-above infinite (inf-fits binary64 false) Y (unsigned-sign (square-unsigned X)) (not-less _ _ (above (le_of_lt (lt_of_not-le n))))).left.is_finite
