-- The square root over counts: its error, and that no other number is as near. Assumes nothing.
use mathlib.Core.Path.{◌≡◌, refl, sym, ap, ◌∙◌, subst}
use mathlib.Core.Bool.{Bool, true, false, cond, true≢false}
use Prim.Native.Nat.{ℕ, zero, suc, ◌+◌, ◌-◌, ◌*◌, ◌/◌, ◌^◌, ◌≤◌, ◌<◌, compare, zero-le}
use native.Mathlib.Nat.{le_refl, le_trans, le_of_eq, le_of_lt, lt_of_le_of_lt, lt_of_lt_of_le, lt_of_not-le, lt_irrefl, zero-lt-suc, mul-pos, mul_assoc, mul-mul-mul_comm, mul-le-mul, mul-le-mul_right, mul-le-mul_left, mul-lt-mul_of_pos_right, lt_of_mul-lt-mul_right, le_of_mul-le-mul_left, zero-mul, pow-suc}
use native.Mathlib.Decide.{dec_le}
use native.Mathlib.Omega.{arith}
use lib.Dec.{T, leb, ltb, ltb→lt, lit<, lit≤}
use lib.Pow.{pow_pos, pow-add, pow_mono, pow-lt}
use lib.Ieee.{Float, nan, inf, fin, binary64, size, nearest, odd, units, fits}
use lib.Ieee.Digits.{back}
use lib.Ieee.Fits.{odd-fits, nearest-le, nan-fits}
use Rattle.float.specs.Exact.{shift, count, negative}
use Rattle.whole_roots.specs.Roots.{square}
use Rattle.whole_roots.proofs.Squares.{square-lt}
use Rattle.float.specs.Root.{digit, isqrt, nearest_root, square_root}
use Rattle.float.proofs.Counts.{counted, digits}
use Rattle.float.proofs.Rounding.{Rounding, rounding}
use Rattle.rounding.specs.Number.{Number, one}
use Rattle.rounding.specs.Error.{Within, RoundedRoot, Nearer}
use Rattle.rounding.proofs.Round.{value-finite}
use Rattle.rounding.proofs.Operations.{one-pos}

-- ---- a root is a binary64
isqrt-lt : (d n : ℕ) → isqrt d n < 2 ^ d
unfolding isqrt digit
isqrt-lt zero n = pow_pos 0
isqrt-lt (suc d) n = go (leb (square (2 * isqrt d (n / 4) + 1)) n) (isqrt d (n / 4)) (isqrt-lt d (n / 4))
  where
    go : (b : Bool) (r : ℕ) → r < 2 ^ d → cond b (2 * r + 1) (2 * r) < 2 ^ suc d
    go true r h = omega (arith, pow-suc 2 d)
    go false r h = omega (arith, pow-suc 2 d)

units-fits : (q k : ℕ) → q ≤ 2 ^ 53 → T (fits binary64 (units binary64 false q k))
unfolding units
units-fits q k a = go (ltb (q * 2 ^ k) (2 ^ 2098)) (ltb→lt (q * 2 ^ k) (2 ^ 2098))
  where
    go : (b : Bool) → (T b → q * 2 ^ k < 2 ^ 2098) → T (fits binary64 (cond b (odd 54 false q k 1074) (inf false)))
    go true h = odd-fits binary64 54 false q k (lt_of_le_of_lt a (pow-lt (le_refl 54))) a (h tt)
    go false h = unfold fits in tt

nearest_root-fits : (n : ℕ) → T (fits binary64 (nearest_root n))
unfolding nearest_root
nearest_root-fits n =
    let k = suc (size n) / 2 - 53 in
    let r = isqrt 53 (n / square (2 ^ k)) in
    let o = compare (4 * n) (square ((2 * r + 1) * 2 ^ k)) in
    units-fits (nearest r o) k (le_trans (nearest-le r o) (isqrt-lt 53 (n / square (2 ^ k))))

pub sqrt-fits : (x : Float) → T (fits binary64 x) → T (fits binary64 (square_root x))
unfolding square_root
sqrt-fits nan t = t
sqrt-fits (inf true) t = nan-fits binary64
sqrt-fits (inf false) t = t
sqrt-fits (fin s zero e) t = t
sqrt-fits (fin true (suc m) e) t = nan-fits binary64
sqrt-fits (fin false (suc m) e) t = nearest_root-fits (count (fin false (suc m) e) * 2 ^ 1074)

-- ---- the error. A square below another has the smaller root; u is 2 ^ k, o is 2 * q - 1
scale-square : (a b : ℕ) → square (a * b) ≡ square a * square b
scale-square a b = mul-mul-mul_comm a b a b

twice-square : (a : ℕ) → square (2 * a) ≡ 4 * square a
twice-square a = omega arith

-- s * x < 4 * y from x < 4 * n and s * n < y, and the other way round
through : (s x n y : ℕ) → 0 < s → x < 4 * n → s * n < y → s * x < 4 * y
through s x n y S h g = omega (arith, mul-lt-mul_of_pos_right h S)

back-through : (s x n y : ℕ) → 4 * n < x → y < s * n → 4 * y < s * x
back-through s x n y h g = omega (arith, mul-le-mul_left s (le_of_lt h))

module _ (q o u n : ℕ) (e : o + 1 ≡ 2 * q) (l : 2 ^ 52 ≤ q) where
  over_root : 0 < u → square (o * u) < 4 * n → square (2 ^ 52 * u) ≤ n → square (2 ^ 53 * (q * u)) ≤ square (2 ^ 53 + 1) * n
  over_root U a m = go (dec_le (square (2 ^ 53 * (q * u))) (square (2 ^ 53 + 1) * n))
    where
      first : square (2 ^ 53 + 1) * n < square (2 ^ 53 * (q * u)) → (2 ^ 53 + 1) * (o * u) < 2 * (2 ^ 53 * (q * u))
      first g =
          square-lt ((2 ^ 53 + 1) * (o * u)) (2 * (2 ^ 53 * (q * u)))
          (rw (scale-square (2 ^ 53 + 1) (o * u), twice-square (2 ^ 53 * (q * u)))
          (through (square (2 ^ 53 + 1)) (square (o * u)) n (square (2 ^ 53 * (q * u))) (lit< tt) a g))

      second : square (2 ^ 53 + 1) * n < square (2 ^ 53 * (q * u)) → (2 ^ 53 + 1) * (2 ^ 52 * u) < 2 ^ 53 * (q * u)
      second g =
          square-lt ((2 ^ 53 + 1) * (2 ^ 52 * u)) (2 ^ 53 * (q * u))
          (rw (scale-square (2 ^ 53 + 1) (2 ^ 52 * u)) (lt_of_le_of_lt (mul-le-mul_left (square (2 ^ 53 + 1)) m) g))

      small : (o q u : ℕ) → o + 1 ≡ 2 * q → (2 ^ 53 + 1) * (o * u) < 2 * (2 ^ 53 * (q * u)) → o * u < 2 ^ 53 * u
      small o q u e h = omega (arith, ap (λ (x : ℕ). x * u) e)

      none : (q u : ℕ) → q ≤ 2 ^ 52 → (2 ^ 53 + 1) * (2 ^ 52 * u) < 2 ^ 53 * (q * u) → ⊥
      none q u h k = omega (arith, mul-le-mul_right u h)

      go : Dec (square (2 ^ 53 * (q * u)) ≤ square (2 ^ 53 + 1) * n) → square (2 ^ 53 * (q * u)) ≤ square (2 ^ 53 + 1) * n
      go (yes h) = h
      go (no h) =
          let g = lt_of_not-le h in
          let b : o < 2 ^ 53 = lt_of_mul-lt-mul_right u (small o q u e (first g)) in
          absurd (none q u (omega arith) (second g))

  under-root : 4 * n < square ((o + 2) * u) → square (2 ^ 53 - 1) * n ≤ square (2 ^ 53 * (q * u))
  under-root b = go (dec_le (square (2 ^ 53 - 1) * n) (square (2 ^ 53 * (q * u))))
    where
      first : square (2 ^ 53 * (q * u)) < square (2 ^ 53 - 1) * n → 2 * (2 ^ 53 * (q * u)) < (2 ^ 53 - 1) * ((o + 2) * u)
      first g =
          square-lt (2 * (2 ^ 53 * (q * u))) ((2 ^ 53 - 1) * ((o + 2) * u))
          (rw (scale-square (2 ^ 53 - 1) ((o + 2) * u), twice-square (2 ^ 53 * (q * u)))
          (back-through (square (2 ^ 53 - 1)) (square ((o + 2) * u)) n (square (2 ^ 53 * (q * u))) b g))

      none : (o q u : ℕ) → o + 1 ≡ 2 * q → 2 ^ 52 ≤ q → 2 * (2 ^ 53 * (q * u)) < (2 ^ 53 - 1) * ((o + 2) * u) → ⊥
      none o q u e l h = omega (arith, ap (λ (x : ℕ). x * u) e, mul-le-mul_right u l)

      go : Dec (square (2 ^ 53 - 1) * n ≤ square (2 ^ 53 * (q * u))) → square (2 ^ 53 - 1) * n ≤ square (2 ^ 53 * (q * u))
      go (yes h) = h
      go (no h) = absurd (none o q u e l (first (lt_of_not-le h)))

-- ---- no other number is as near: c is m * 2 ^ j, m below 2 ^ 53
square-mono : {a b : ℕ} → a ≤ b → square a ≤ square b
square-mono h = mul-le-mul h h

square-mono-lt : {a b : ℕ} → a < b → square a < square b
square-mono-lt {a} {b} h = lt_of_le_of_lt (mul-le-mul_left a (le_of_lt h)) (mul-lt-mul_of_pos_right h (lt_of_le_of_lt zero-le h))

module _ (n q k o : ℕ) (e : o + 1 ≡ 2 * q) (l : 2 ^ 52 ≤ q) (a : square (o * 2 ^ k) < 4 * n) (b : 4 * n < square ((o + 2) * 2 ^ k)) (least : square (2 ^ 52 * 2 ^ k) ≤ n) where
  -- another multiple of the unit
  multiple : (t : ℕ) → Nearer n (q * 2 ^ k) (t * 2 ^ k)
  multiple t =
      record {
        below = λ h. lt_of_le_of_lt (square-mono (beside t q o (2 ^ k) e (lt_of_mul-lt-mul_right (2 ^ k) h))) a;
        above = λ h. lt_of_lt_of_le b (square-mono (beyond t q o (2 ^ k) e (lt_of_mul-lt-mul_right (2 ^ k) h)));
      }
    where
      beside : (t q o u : ℕ) → o + 1 ≡ 2 * q → t < q → t * u + q * u ≤ o * u
      beside t q o u e h = omega (arith, ap (λ (x : ℕ). x * u) e, mul-le-mul_right u h)

      beyond : (t q o u : ℕ) → o + 1 ≡ 2 * q → q < t → (o + 2) * u ≤ t * u + q * u
      beyond t q o u e h = omega (arith, ap (λ (x : ℕ). x * u) e, mul-le-mul_right u h)

  -- a number too small to be such a multiple
  smaller : (c : ℕ) → c < 2 ^ 52 * 2 ^ k → Nearer n (q * 2 ^ k) c
  smaller c h = record { below = λ _. go (dec_le q (2 ^ 52)); above = λ g. absurd (none q (2 ^ k) c l h g) }
    where
      none : (q u c : ℕ) → 2 ^ 52 ≤ q → c < 2 ^ 52 * u → q * u < c → ⊥
      none q u c l h g = omega (arith, mul-le-mul_right u l)

      double : (q u c : ℕ) → q ≤ 2 ^ 52 → c < 2 ^ 52 * u → c + q * u < 2 * (2 ^ 52 * u)
      double q u c l h = omega (arith, mul-le-mul_right u l)

      beside : (q o u c : ℕ) → o + 1 ≡ 2 * q → 2 ^ 52 < q → c < 2 ^ 52 * u → c + q * u ≤ o * u
      beside q o u c e l h = omega (arith, ap (λ (x : ℕ). x * u) e, mul-le-mul_right u l)

      go : Dec (q ≤ 2 ^ 52) → square (c + q * 2 ^ k) < 4 * n
      go (yes g) = lt_of_lt_of_le (square-mono-lt (double q (2 ^ k) c g h)) (le_trans (le_of_eq (twice-square (2 ^ 52 * 2 ^ k))) (mul-le-mul_left 4 least))
      go (no g) = lt_of_le_of_lt (square-mono (beside q o (2 ^ k) c e (lt_of_not-le g) h)) a

  nearer : (m j : ℕ) → m < 2 ^ 53 → Nearer n (q * 2 ^ k) (m * 2 ^ j)
  nearer m j M = go (dec_le k j)
    where
      same : k ≤ j → m * 2 ^ (j - k) * 2 ^ k ≡ m * 2 ^ j
      same h = mul_assoc m (2 ^ (j - k)) (2 ^ k) ∙ ap (λ (x : ℕ). m * x) (sym (pow-add 2 (j - k) k) ∙ ap (λ (x : ℕ). 2 ^ x) (back j k h))

      under : j < k → 2 ^ 53 * 2 ^ j ≤ 2 ^ 52 * 2 ^ k
      under h = le_trans (le_of_eq (sym (pow-add 2 53 j))) (le_trans (pow_mono {i = 53 + j} {j = 52 + k} (omega arith)) (le_of_eq (pow-add 2 52 k)))

      go : Dec (k ≤ j) → Nearer n (q * 2 ^ k) (m * 2 ^ j)
      go (yes h) = subst (Nearer n (q * 2 ^ k)) (same h) (multiple (m * 2 ^ (j - k)))
      go (no h) = smaller (m * 2 ^ j) (lt_of_lt_of_le (mul-lt-mul_of_pos_right M (pow_pos j)) (under (lt_of_not-le h)))

-- ---- the root of a number above zero
pub record Rooted (g z : Float) : Type 0 where
  pub number : Number z
  pub sign : negative z ≡ false
  pub error : RoundedRoot (count g * one) (count z)
  pub nearest : {y : Float} → Number y → Nearer (count g * one) (count z) (count y)

of-rounding : (g z : Float) → T (fits binary64 z) → Rounding z (count g * 2 ^ 1074) → Rooted g z
unfolding one
of-rounding g z t h =
    let c = counted z false (h.q * 2 ^ h.k) t h.value in
    record {
      number = record { is_binary64 = t; is_finite = value-finite z false (h.q * 2 ^ h.k) (2 ^ 1074) h.value };
      sign = c.sign;
      error = rw c.size (record {
        over = over_root h.q h.odd (2 ^ h.k) (count g * 2 ^ 1074) h.next h.low (pow_pos h.k) h.above h.least;
        under = under-root h.q h.odd (2 ^ h.k) (count g * 2 ^ 1074) h.next h.low h.under;
      });
      nearest = λ {y} Y. rw c.size (of_number y Y);
    }
  where
    of_number : (y : Float) → Number y → Nearer (count g * 2 ^ 1074) (h.q * 2 ^ h.k) (count y)
    of_number nan Y = absurd Y.is_finite
    of_number (inf s) Y = absurd Y.is_finite
    of_number (fin s m e) Y = unfold count in nearer (count g * 2 ^ 1074) h.q h.k h.odd h.next h.low h.above h.under h.least m (shift e) (digits s m e Y.is_binary64)

pub sqrt-root : {g : Float} → Number g → negative g ≡ false → 0 < count g → Rooted g (square_root g)
unfolding count negative
sqrt-root {g} = go g
  where
    go : (g : Float) → Number g → negative g ≡ false → 0 < count g → Rooted g (square_root g)
    go nan G s p = absurd G.is_finite
    go (inf t) G s p = absurd G.is_finite
    go (fin t zero e) G s p = absurd (lt_irrefl 0 (subst (λ (z : ℕ). 0 < z) (zero-mul (2 ^ shift e)) p))
    go (fin true (suc m) e) G s p = absurd (true≢false s)
    go (fin false (suc m) e) G s p = of-rounding (fin false (suc m) e) (square_root (fin false (suc m) e)) (sqrt-fits (fin false (suc m) e) G.is_binary64) (rounding m e G.is_binary64)

-- the root of a zero is that zero
pub root-zero : (g : Float) → Number g → count g ≡ 0 → square_root g ≡ g
unfolding square_root count
root-zero nan G e = absurd G.is_finite
root-zero (inf s) G e = absurd G.is_finite
root-zero (fin s zero d) G e = refl
root-zero (fin s (suc m) d) G e = absurd (lt_irrefl 0 (subst (λ (v : ℕ). 0 < v) e (mul-pos (zero-lt-suc m) (pow_pos (shift d)))))

-- ---- the square of the root is near to the number, within 3 / 2 ^ 53 of itself. R is that square
crude : (a b n R : ℕ) → 0 < a → 4 * b ≤ 5 * a → a * n ≤ b * R → 4 * n ≤ 5 * R
crude a b n R P e h = le_of_mul-le-mul_left {k = a} (omega (arith, mul-le-mul_right R e)) P

squared-over : (k n R : ℕ) → 10 ≤ k → 4 * n ≤ 5 * R → k * (k * R) ≤ square (k + 1) * n → k * (k * R) ≤ k * (k * n + 3 * R)
squared-over k n R l c h = omega (arith, mul-le-mul_left k c, mul-le-mul_right R l)

squared-under : (j n R : ℕ) → 4 * n ≤ 5 * R → square j * n ≤ (j + 1) * ((j + 1) * R) → (j + 1) * ((j + 1) * n) ≤ (j + 1) * ((j + 1) * R + 3 * R)
squared-under j n R c h = omega (arith, mul-le-mul_left j c)

pub root-squared : {n r : ℕ} → RoundedRoot n r → Within (2 ^ 53 * square r) (2 ^ 53 * n) (3 * square r)
root-squared {n} {r} h =
    let e : square (2 ^ 53 * r) ≡ 2 ^ 53 * (2 ^ 53 * square r) = parted (2 ^ 53) r in
    let u : square (2 ^ 53 - 1) * n ≤ 2 ^ 53 * (2 ^ 53 * square r) = le_trans h.under (le_of_eq e) in
    let o : 2 ^ 53 * (2 ^ 53 * square r) ≤ square (2 ^ 53 + 1) * n = le_trans (le_of_eq (sym e)) h.over in
    let c = crude (square (2 ^ 53 - 1)) (2 ^ 53 * 2 ^ 53) n (square r) (lit< tt) (lit≤ tt) (le_trans u (le_of_eq (sym (mul_assoc (2 ^ 53) (2 ^ 53) (square r))))) in
    record {
      over = le_of_mul-le-mul_left (squared-over (2 ^ 53) n (square r) (lit≤ tt) c o) (lit< tt);
      under = le_of_mul-le-mul_left (squared-under (2 ^ 53 - 1) n (square r) c u) (lit< tt);
    }
  where
    parted : (k r : ℕ) → square (k * r) ≡ k * (k * square r)
    parted k r = omega arith

pub root-pos : {g : Float} → Number g → negative g ≡ false → 0 < count g → 0 < count (square_root g)
root-pos {g} G s p = some (count (square_root g)) (count g * one) (root-squared (sqrt-root G s p).error).under (mul-pos p one-pos)
  where
    some : (r n : ℕ) → 2 ^ 53 * n ≤ 2 ^ 53 * square r + 3 * square r → 0 < n → 0 < r
    some zero n h p = omega (arith, h)
    some (suc r) n h p = zero-lt-suc r
