-- What confirms a candidate q for the root of n = m * 2 ^ j, m having 53 binary digits: with a = m * 2 ^ (j % 2), the number a * 2 ^ 54 lies strictly
-- between the squares of the two odd numbers next to 2 * q. Then `nearest_root n` is q * 2 ^ (j / 2 - 26) units (`confirmed`). Nothing is said of where q comes from.
-- Assumes nothing.
use mathlib.Core.Path.{◌≡◌, refl, sym, ap, ◌∙◌, subst}
use mathlib.Core.Bool.{false, not}
use Prim.Native.Nat.{ℕ, suc, ◌+◌, ◌-◌, ◌*◌, ◌/◌, ◌%◌, ◌^◌, ◌≤◌, ◌<◌, compare, Ordering}
use native.Mathlib.Nat.{le_trans, le_of_eq, le_antisymm, lt_of_lt_of_le, lt_of_le_of_lt, mul-le-mul_right, lt_of_mul-lt-mul_right, eq_of_mul-eq-mul_right, mul-div_cancel, mul-pos, mul_assoc, mul-mul-mul_comm}
use native.Mathlib.Omega.{arith}
use lib.Dec.{T, is_le, compare_is_eq, eqb, leb→le, nleb→lt, eqb→eq, eqb_refl}
use lib.Arith.{lt_of_le-ne}
use lib.Pow.{pow-add, pow_pos, shl_lt}
use lib.Ieee.{Float, binary64, size, nearest, units}
use lib.Ieee.Digits.{size-lt, size-le}
use Rattle.whole_roots.specs.Roots.{square, WholeRoot, Between}
use Rattle.whole_roots.proofs.Squares.{square-lt}
use Rattle.float.specs.Root.{isqrt, nearest_root}
use Rattle.float.proofs.Counts.{pow_lt_back}
use Rattle.float.proofs.Isqrt.{isqrt-root}

-- ---- what `compare` says
abbrev Cmp : Ordering → ℕ → ℕ → Type 0
Cmp Ordering.lt a b = a < b
Cmp Ordering.eq a b = a ≡ b
Cmp Ordering.gt a b = b < a

cmp : (a b : ℕ) → Cmp (compare a b) a b
cmp a b = go (compare a b) (leb→le a b) (nleb→lt a b) (eqb→eq a b) (λ (e : a ≡ b). subst (λ (x : ℕ). T (eqb a x)) e (eqb_refl a))
  where
    go : (o : Ordering) → (T (is_le o) → a ≤ b) → (T (not (is_le o)) → b < a) → (T (compare_is_eq o) → a ≡ b) → (a ≡ b → T (compare_is_eq o)) → Cmp o a b
    go Ordering.lt h k e n = lt_of_le-ne (h tt) n
    go Ordering.eq h k e n = e tt
    go Ordering.gt h k e n = k tt

unscale : (o : Ordering) (x y w : ℕ) → 0 < w → Cmp o (x * w) (y * w) → Cmp o x y
unscale Ordering.lt x y w W h = lt_of_mul-lt-mul_right w h
unscale Ordering.eq x y w W h = eq_of_mul-eq-mul_right w W x y h
unscale Ordering.gt x y w W h = lt_of_mul-lt-mul_right w h

-- then q is the whole number nearest to the root of x / 4, for whose whole part r the tests of `nearest` are made
picked : (x q r : ℕ) → Between x q → square (2 * r) ≤ x → x < square (2 * r + 2) → (o : Ordering) → Cmp o x (square (2 * r + 1)) → nearest r o ≡ q
picked x q r b lo hi Ordering.lt h =
    let s = square-lt b.odd (2 * r + 1) (lt_of_lt_of_le b.above (omega arith)) in
    let t = square-lt (2 * r) (b.odd + 2) (lt_of_le_of_lt lo b.under) in
    omega (arith, b.next)
picked x q r b lo hi Ordering.eq h =
    let s = square-lt b.odd (2 * r + 1) (lt_of_lt_of_le b.above (le_of_eq h)) in
    let t = square-lt (2 * r + 1) (b.odd + 2) (lt_of_le_of_lt (le_of_eq (sym h)) b.under) in
    omega (arith, b.next)
picked x q r b lo hi Ordering.gt h =
    let s = square-lt (2 * r + 1) (b.odd + 2) (lt_of_lt_of_le h (omega (arith, b.under))) in
    let t = square-lt b.odd (2 * r + 2) (lt_of_lt_of_le b.above (omega arith)) in
    omega (arith, b.next)

-- ---- the digits of n = m * 2 ^ j
one_more : (j z : ℕ) → 52 + j < z → 53 + j ≤ z
one_more j z h = omega arith

digits_of : (m j : ℕ) → 2 ^ 52 ≤ m → m < 2 ^ 53 → size (m * 2 ^ j) ≡ 53 + j
digits_of m j lo hi =
    le_antisymm (size-le (m * 2 ^ j) (53 + j) (shl_lt 53 j hi))
    (one_more j (size (m * 2 ^ j)) (pow_lt_back (52 + j) (size (m * 2 ^ j)) (lt_of_le_of_lt (le_trans (le_of_eq (pow-add 2 52 j)) (mul-le-mul_right (2 ^ j) lo)) (size-lt (m * 2 ^ j)))))

dropped : (z j : ℕ) → z ≡ 53 + j → 52 ≤ j → suc z / 2 - 53 ≡ j / 2 - 26
dropped z j e h = omega arith

-- j is its parity and an even rest
parts : (j : ℕ) → 52 ≤ j → j ≡ j % 2 + (52 + (j / 2 - 26 + (j / 2 - 26)))
parts j h = omega arith

-- so n is a * 2 ^ 52 squares of the unit
pub scaled : (m j : ℕ) → 52 ≤ j → m * 2 ^ j ≡ m * 2 ^ (j % 2) * 2 ^ 52 * square (2 ^ (j / 2 - 26))
scaled m j h =
    let i = j / 2 - 26 in
    ap (λ (x : ℕ). m * 2 ^ x) (parts j h)
    ∙ ap (λ (x : ℕ). m * x) (pow-add 2 (j % 2) (52 + (i + i)) ∙ ap (λ (x : ℕ). 2 ^ (j % 2) * x) (pow-add 2 52 (i + i) ∙ ap (λ (x : ℕ). 2 ^ 52 * x) (pow-add 2 i i)))
    ∙ sym (mul_assoc m (2 ^ (j % 2)) (2 ^ 52 * square (2 ^ i)))
    ∙ sym (mul_assoc (m * 2 ^ (j % 2)) (2 ^ 52) (square (2 ^ i)))

-- ---- `nearest_root`, from its k on
abbrev core : ℕ → ℕ → Float
core n k = units binary64 false (nearest (isqrt 53 (n / square (2 ^ k))) (compare (4 * n) (square ((2 * isqrt 53 (n / square (2 ^ k)) + 1) * 2 ^ k)))) k

nearest_root-is : (n : ℕ) → nearest_root n ≡ core n (suc (size n) / 2 - 53)
unfolding nearest_root
nearest_root-is n = refl

-- at n = a * 2 ^ 52 squares of the unit 2 ^ k
module _ (a k q : ℕ) (A : a < 2 ^ 54) (b : Between (a * 2 ^ 54) q) where
  core_is : core (a * 2 ^ 52 * square (2 ^ k)) k ≡ units binary64 false q k
  core_is =
      let w = square (2 ^ k) in
      let W : 0 < w = mul-pos (pow_pos k) (pow_pos k) in
      let e : a * 2 ^ 52 * w / w ≡ a * 2 ^ 52 = mul-div_cancel (a * 2 ^ 52) W in
      ap (λ (x : ℕ). units binary64 false (nearest (isqrt 53 x) (compare (4 * (a * 2 ^ 52 * w)) (square ((2 * isqrt 53 x + 1) * 2 ^ k)))) k) e
      ∙ ap (λ (x : ℕ). units binary64 false x k) (at (isqrt 53 (a * 2 ^ 52)) (isqrt-root 53 (a * 2 ^ 52) (omega arith)))
    where
      four : (x w : ℕ) → 4 * (x * 2 ^ 52 * w) ≡ x * 2 ^ 54 * w
      four x w = omega arith

      at : (r : ℕ) → WholeRoot (a * 2 ^ 52) r → nearest r (compare (4 * (a * 2 ^ 52 * square (2 ^ k))) (square ((2 * r + 1) * 2 ^ k))) ≡ q
      at r h =
          let x = 4 * (a * 2 ^ 52 * square (2 ^ k)) in
          let y = square ((2 * r + 1) * 2 ^ k) in
          picked (a * 2 ^ 54) q r b (omega (arith, h.low)) (omega (arith, h.high)) (compare x y)
          (unscale (compare x y) (a * 2 ^ 54) (square (2 * r + 1)) (square (2 ^ k)) (mul-pos (pow_pos k) (pow_pos k))
          (subst (λ (z : ℕ). Cmp (compare x y) z (square (2 * r + 1) * square (2 ^ k))) (four a (square (2 ^ k)))
          (subst (λ (z : ℕ). Cmp (compare x y) x z) (mul-mul-mul_comm (2 * r + 1) (2 ^ k) (2 * r + 1) (2 ^ k)) (cmp x y))))

pub confirmed : (m j q : ℕ) → 2 ^ 52 ≤ m → m < 2 ^ 53 → 52 ≤ j → m * 2 ^ (j % 2) < 2 ^ 54 → Between (m * 2 ^ (j % 2) * 2 ^ 54) q → nearest_root (m * 2 ^ j) ≡ units binary64 false q (j / 2 - 26)
confirmed m j q lo hi far A b =
    nearest_root-is (m * 2 ^ j)
    ∙ ap (core (m * 2 ^ j)) (dropped (size (m * 2 ^ j)) j (digits_of m j lo hi) far)
    ∙ ap (λ (n : ℕ). core n (j / 2 - 26)) (scaled m j far)
    ∙ core_is (m * 2 ^ (j % 2)) (j / 2 - 26) q A b
