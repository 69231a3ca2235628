-- The two sides of c sine(a) = s cosine(a), by the exact sums, with the terms that are subtracted brought over to the other side; and how far the sides
-- move with a. Assumes nothing.
use mathlib.Core.Path.{◌≡◌, sym, ap, ◌∙◌, subst}
use mathlib.Core.List.{List}
use Prim.Native.Nat.{ℕ, ◌+◌, ◌-◌, ◌*◌, ◌^◌, ◌≤◌}
use native.Mathlib.Nat.{le_trans, le_of_lt, lt_of_not-le, mul-le-mul, mul-le-mul_left, mul-le-mul_right, add-le-add, pow-suc}
use native.Mathlib.Decide.{dec_le}
use native.Mathlib.Omega.{arith}
use lib.Dec.{T, lit≤}
use Rattle.rounding.specs.Number.{one}
use Rattle.rounding.specs.Error.{Within}
use Rattle.trigonometry.specs.Taylor.{factorial, denominator}
use Rattle.trigonometry.proofs.Terms.{total, sine_added, sine_subtracted, cosine_added, cosine_subtracted}
use Rattle.half_angle.proofs.Rise.{slope, up_to_31, total-mono, total-step}

-- at an a of n counts, for a c of p counts and an s of q
abbrev side : List ℕ → List ℕ → ℕ → ℕ → ℕ → ℕ
side ks js n p q = p * total n one ks + q * total n one js

unfoldable pub left : ℕ → ℕ → ℕ → ℕ
left n p q = side sine_added cosine_subtracted n p q

unfoldable pub right : ℕ → ℕ → ℕ → ℕ
right n p q = side sine_subtracted cosine_added n p q

-- a is not beyond the angle at which the sides are the same, or not short of it, or both, but for x: the sides are x apart, in counts times the sums'
-- denominator
abbrev W : ℕ
W = denominator one

abbrev pub NotBeyond : ℕ → ℕ → ℕ → ℕ → Type 0
NotBeyond x n p q = left n p q ≤ right n p q + x * W

abbrev pub NotShort : ℕ → ℕ → ℕ → ℕ → Type 0
NotShort x n p q = right n p q ≤ left n p q + x * W

abbrev pub Apart : ℕ → ℕ → ℕ → ℕ → Type 0
Apart x n p q = Within (left n p q) (right n p q) (x * W)

-- apart by at most 2 ^ -40
abbrev pub Level : ℕ → ℕ → ℕ → Type 0
Level n p q = Within (2 ^ 40 * left n p q) (2 ^ 40 * right n p q) (one * W)

pub level : (x n p q : ℕ) → Apart x n p q → 2 ^ 40 * x ≤ one → Level n p q
level x n p q a h = record { over = go (left n p q) (right n p q) x one W a.over h; under = go (right n p q) (left n p q) x one W a.under h }
  where
    go : (L R x o D : ℕ) → L ≤ R + x * D → 2 ^ 40 * x ≤ o → 2 ^ 40 * L ≤ 2 ^ 40 * R + o * D
    go L R x o D h k = omega (arith, h, mul-le-mul_right D k)

-- ---- each side rises with a, and at most 8 times as far as a moves, where a, s and c are at most 2
record Gentle (ks js : List ℕ) : Type 0 where
  first : T (up_to_31 ks)
  second : T (up_to_31 js)
  slopes : slope ks + slope js ≤ 4 * factorial 31

left-gentle : Gentle sine_added cosine_subtracted
unfolding factorial
left-gentle = record { first = tt; second = tt; slopes = lit≤ tt }

right-gentle : Gentle sine_subtracted cosine_added
unfolding factorial
right-gentle = record { first = tt; second = tt; slopes = lit≤ tt }

module _ {p q : ℕ} (P : p ≤ 2 * one) (Q : q ≤ 2 * one) where
  side-mono : (ks js : List ℕ) {n m : ℕ} → n ≤ m → side ks js n p q ≤ side ks js m p q
  side-mono ks js h = add-le-add (mul-le-mul_left p (total-mono one ks h)) (mul-le-mul_left q (total-mono one js h))

  side-step : {ks js : List ℕ} → Gentle ks js → (t : ℕ) {n m : ℕ} → n ≤ m → m ≤ n + t → m ≤ 2 * one → side ks js m p q ≤ side ks js n p q + 8 * t * W
  unfolding denominator
  side-step {ks} {js} g t {n} {m} h i l =
      let e = m - n in
      let F = factorial 31 in
      let apart : n + e ≡ m = omega arith in
      let l' : n + e ≤ 2 * one = omega arith in
      let x = slope ks in
      let y = slope js in
      subst (λ (m : ℕ). side ks js m p q ≤ side ks js n p q + 8 * t * (one ^ 31 * F)) apart
      (le_trans
      (weighed p q (total (n + e) one ks) (total n one ks) (total (n + e) one js) (total n one js) e (one ^ 30) x y
      (total-step n e one l' ks g.first) (total-step n e one l' js g.second))
      (add-most (side ks js n p q) (mul-le-mul (less n m t i) (mul-le-mul_left (one ^ 30) (weights p q x y F one P Q g.slopes)))
      (eight t (one ^ 30) one F ∙ ap (λ (z : ℕ). 8 * t * (z * F)) (sym (pow-suc one 30)))))
    where
      less : (n m t : ℕ) → m ≤ n + t → m - n ≤ t
      less n m t h = omega arith

      weighed : (p q A B C D e Z x y : ℕ) → A ≤ B + e * (Z * x) → C ≤ D + e * (Z * y) → p * A + q * C ≤ p * B + q * D + e * (Z * (p * x + q * y))
      weighed p q A B C D e Z x y a c = omega (arith, mul-le-mul_left p a, mul-le-mul_left q c)

      weights : (p q x y F d : ℕ) → p ≤ 2 * d → q ≤ 2 * d → x + y ≤ 4 * F → p * x + q * y ≤ 8 * (d * F)
      weights p q x y F d h i k = omega (arith, mul-le-mul_right x h, mul-le-mul_right y i, mul-le-mul_left (2 * d) k)

      add-most : (a : ℕ) {x y z : ℕ} → x ≤ y → y ≡ z → a + x ≤ a + z
      add-most a h e = omega arith

      eight : (t Z d F : ℕ) → t * (Z * (8 * (d * F))) ≡ 8 * t * (Z * d * F)
      eight t Z d F = omega arith

  left-mono : {n m : ℕ} → n ≤ m → left n p q ≤ left m p q
  unfolding left
  left-mono = side-mono sine_added cosine_subtracted

  right-mono : {n m : ℕ} → n ≤ m → right n p q ≤ right m p q
  unfolding right
  right-mono = side-mono sine_subtracted cosine_added

  left-step : (t : ℕ) {n m : ℕ} → n ≤ m → m ≤ n + t → m ≤ 2 * one → left m p q ≤ left n p q + 8 * t * W
  unfolding left
  left-step = side-step left-gentle

  right-step : (t : ℕ) {n m : ℕ} → n ≤ m → m ≤ n + t → m ≤ 2 * one → right m p q ≤ right n p q + 8 * t * W
  unfolding right
  right-step = side-step right-gentle

  -- ---- the sides of a neighbour
  added : (L R L' R' x t D : ℕ) → L' ≤ L + 8 * t * D → L ≤ R + x * D → R ≤ R' → L' ≤ R' + (x + 8 * t) * D
  added L R L' R' x t D h i j = omega (arith, h, i, j)

  back : (L R L' R' x t D : ℕ) → L' ≤ L → L ≤ R + x * D → R ≤ R' + 8 * t * D → L' ≤ R' + (x + 8 * t) * D
  back L R L' R' x t D h i j = omega (arith, h, i, j)

  pub moved : (x t : ℕ) {n m : ℕ} → Apart x n p q → n ≤ m + t → m ≤ n + t → n ≤ 2 * one → m ≤ 2 * one → Apart (x + 8 * t) m p q
  moved x t {n} {m} a i j N M =
      elim (dec_le n m) [
        | yes h ↦
            record {
              over = added (left n p q) (right n p q) (left m p q) (right m p q) x t W (left-step t h j M) a.over (right-mono h);
              under = added (right n p q) (left n p q) (right m p q) (left m p q) x t W (right-step t h j M) a.under (left-mono h);
            }
        | no o ↦
            let h = le_of_lt (lt_of_not-le o) in
            record {
              over = back (left n p q) (right n p q) (left m p q) (right m p q) x t W (left-mono h) a.over (right-step t h i N);
              under = back (right n p q) (left n p q) (right m p q) (left m p q) x t W (right-mono h) a.under (left-step t h i N);
            }
      ]

  -- where n is not beyond, and a neighbour m above it not short
  pub between : (x t : ℕ) {n m : ℕ} → NotBeyond x n p q → NotShort x m p q → n ≤ m → m ≤ n + t → m ≤ 2 * one → Apart (x + 8 * t) n p q
  between x t {n} {m} a b h i M =
      record {
        over = more (left n p q) (right n p q) x t W a;
        under = back (right m p q) (left m p q) (right n p q) (left n p q) x t W (right-mono h) b (left-step t h i M);
      }
    where
      more : (L R x t D : ℕ) → L ≤ R + x * D → L ≤ R + (x + 8 * t) * D
      more L R x t D h = omega (arith, h)
