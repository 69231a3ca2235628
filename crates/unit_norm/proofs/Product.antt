-- The rounded product of two quaternions whose squared norms are within 28 * 2 ^ -53 of 1: its squared norm is within 101 * 2 ^ -53 of 1. Assumes nothing.
use Prim.Native.Nat.{ℕ, ◌+◌, ◌-◌, ◌*◌, ◌^◌, ◌≤◌}
use mathlib.Core.Path.{◌≡◌, refl, sym, ◌∙◌, subst}
use native.Mathlib.Nat.{lt_of_not-le, mul-pos, mul-mul-mul_comm, mul-le-mul, mul-le-mul_left, le_of_mul-le-mul_left, le_of_mul-le-mul_right}
use native.Mathlib.Decide.{dec_le}
use native.Mathlib.Omega.{arith}
use lib.Dec.{lit<, lit≤}
use lib.IntN.{ℤ, nat_abs, ◌*ℤ◌}
use lib.Ieee.{Float, binary64, sub, mul}
use Rattle.whole_roots.specs.Roots.{square}
use Rattle.float.specs.Exact.{exact, count}
use Rattle.rounding.specs.Number.{Number, one}
use Rattle.rounding.specs.Error.{Within}
use Rattle.rounding.proofs.Laws.{one-pos}
use Rattle.law.specs.Quaternion as Quaternion
use Rattle.law.specs.Quaternion.{Quaternion}
use Rattle.law.specs.Rounded.{rounded}
use Rattle.unit_norm.specs.SquaredNorm.{squared_norm}
use Rattle.unit_norm.proofs.Sums.{tiny, slack, tiny-one, tiny-few, Near, sizes-near, product, negated, in-turn}
use Rattle.unit_norm.proofs.Norms.{o, exactly, squares, exactly-squares, squares-mul}
use Rattle.unit_norm.proofs.Unit.{Unit, each}

-- ---- twice a product is at most the sum of the squares
mean : (x y : ℕ) → 2 * (x * y) ≤ x * x + y * y
mean x y = go (dec_le x y)
  where
    above : (x d : ℕ) → 2 * (x * (x + d)) ≤ x * x + (x + d) * (x + d)
    above x d = omega arith

    below : (y d : ℕ) → 2 * ((y + d) * y) ≤ (y + d) * (y + d) + y * y
    below y d = omega arith

    go : Dec (x ≤ y) → 2 * (x * y) ≤ x * x + y * y
    go (yes l) = let e : y ≡ x + (y - x) = omega arith in subst (λ (n : ℕ). 2 * (x * n) ≤ x * x + n * n) (sym e) (above x (y - x))
    go (no l) = let k = lt_of_not-le l in let e : x ≡ y + (x - y) = omega arith in subst (λ (n : ℕ). 2 * (n * y) ≤ n * n + y * y) (sym e) (below y (x - y))

-- ---- a value z of the product: its square, times that of one, is within 11 * tiny * (one * one) of the square of m, the exact value's size
record Component (m : ℕ) (z : Float) : Type 0 where
  number : Number z
  near : Within (square (count z) * (one * one)) (square m) (11 * (tiny * (one * one)))

square-over : (r m t q : ℕ) → r ≤ m + 5 * t → 32 * m ≤ 33 * q → 400 * t ≤ q → square r ≤ square m + 11 * (t * q)
square-over r m t q h l f = omega (arith, mul-le-mul h h, mul-le-mul_left t l, mul-le-mul_left t f)

square-under : (r m t q : ℕ) → m ≤ r + 5 * t → r ≤ m + 5 * t → 32 * m ≤ 33 * q → 400 * t ≤ q → square m ≤ square r + 11 * (t * q)
square-under r m t q h g l f = omega (arith, mul-le-mul h h, mul-le-mul_left t g, mul-le-mul_left t l, mul-le-mul_left t f)

component : {w : ℤ} {b : ℕ} {z : Float} → Near w b 4 7 z → 32 * b ≤ 33 * (one * one) → Component (nat_abs w) z
unfolding slack
component {w} {b} {z} N h =
    let m = nat_abs w in
    let l = small m b (one * one) N.size h in
    let n = sizes-near N in
    let e = five b tiny (subst (λ (n : ℕ). 32 * b ≤ 33 * n) tiny-one h) in
    let over = le_of_mul-le-mul_left {m = count z * one} {n = m + 5 * tiny} {k = 2 ^ 53} (wider _ _ _ tiny n.over e) (lit< tt) in
    let under = le_of_mul-le-mul_left {m = m} {n = count z * one + 5 * tiny} {k = 2 ^ 53} (wider _ _ _ tiny n.under e) (lit< tt) in
    let f = tiny-few 400 (lit≤ tt) in
    record { number = N.number; near = rw (mul-mul-mul_comm (count z) (count z) one one) (record { over = square-over (count z * one) m tiny (one * one) over l f; under = square-under (count z * one) m tiny (one * one) under over l f }) }
  where
    small : (m b q : ℕ) → m ≤ b → 32 * b ≤ 33 * q → 32 * m ≤ 33 * q
    small m b q h k = omega arith

    five : (b t : ℕ) → 32 * b ≤ 33 * (2 ^ 53 * t) → 4 * b + 7 * (2 ^ 10 * t) ≤ 2 ^ 53 * (5 * t)
    five b t h = omega arith

    wider : (a b e t : ℕ) → 2 ^ 53 * a ≤ 2 ^ 53 * b + e → e ≤ 2 ^ 53 * (5 * t) → 2 ^ 53 * a ≤ 2 ^ 53 * (b + 5 * t)
    wider a b e t h k = omega arith

-- ---- the four together: a, b, c, d are the squares of the values, m₀ .. those of the exact ones, s and r the squared norms of the factors, q the square of one
norms-over : (s r t q : ℕ) → s ≤ q + 28 * t → r ≤ q + 28 * t → 1000 * t ≤ q → s * r ≤ q * q + 57 * (t * q)
norms-over s r t q h k f = omega (arith, mul-le-mul h k, mul-le-mul_left t f)

norms-under : (s r t q : ℕ) → q ≤ s + 28 * t → q ≤ r + 28 * t → s ≤ q + 28 * t → r ≤ q + 28 * t → 4000 * t ≤ q → q * q ≤ s * r + 57 * (t * q)
norms-under s r t q h k g l f = omega (arith, mul-le-mul h k, mul-le-mul_left t g, mul-le-mul_left t l, mul-le-mul_left t f)

all-over : (a b c d m₀ m₁ m₂ m₃ e t q : ℕ) → a * q ≤ m₀ + 11 * (t * q) → b * q ≤ m₁ + 11 * (t * q) → c * q ≤ m₂ + 11 * (t * q) → d * q ≤ m₃ + 11 * (t * q)
    → m₀ + m₁ + m₂ + m₃ ≡ e → e ≤ q * q + 57 * (t * q) → (a + b + c + d) * q ≤ (q + 101 * t) * q
all-over a b c d m₀ m₁ m₂ m₃ e t q h₀ h₁ h₂ h₃ f g = omega arith

all-under : (a b c d m₀ m₁ m₂ m₃ e t q : ℕ) → m₀ ≤ a * q + 11 * (t * q) → m₁ ≤ b * q + 11 * (t * q) → m₂ ≤ c * q + 11 * (t * q) → m₃ ≤ d * q + 11 * (t * q)
    → m₀ + m₁ + m₂ + m₃ ≡ e → q * q ≤ e + 57 * (t * q) → q * q ≤ (a + b + c + d + 101 * t) * q
all-under a b c d m₀ m₁ m₂ m₃ e t q h₀ h₁ h₂ h₃ f g = omega arith

module _ {p q : Quaternion Float} (P : Unit 28 p) (Q : Unit 28 q) where
  -- the product of two values, each in size at most the root of its squared norm
  term : {x y : Float} → Number x → Number y → square (count x) ≤ squared_norm p → square (count y) ≤ squared_norm q → Near (exact x *ℤ exact y) (count x * count y) 1 1 (mul binary64 x y)
  term {x} {y} X Y h k = product X Y (bounded (count x) (count y) (squared_norm p) (squared_norm q) (one * one) tiny h k P.near.over Q.near.over (mean (count x) (count y)) (tiny-few 1000 (lit≤ tt)))
    where
      bounded : (x y s r q t : ℕ) → x * x ≤ s → y * y ≤ r → s ≤ q + 28 * t → r ≤ q + 28 * t → 2 * (x * y) ≤ x * x + y * y → 1000 * t ≤ q → x * y ≤ 2 ^ 7 * q
      bounded x y s r q t h k S R m f = omega arith

  -- four such, of the values of p and those of q in any order
  together : (a b c d w x y z : ℕ) → a * a + b * b + c * c + d * d ≤ squared_norm p → w * w + x * x + y * y + z * z ≤ squared_norm q → 32 * (a * w + b * x + c * y + d * z) ≤ 33 * (one * one)
  together a b c d w x y z h k =
      sum (a * w) (b * x) (c * y) (d * z) (a * a) (b * b) (c * c) (d * d) (w * w) (x * x) (y * y) (z * z) (squared_norm p) (squared_norm q) (one * one) tiny (mean a w) (mean b x) (mean c y) (mean d z) h k P.near.over Q.near.over
      (tiny-few 1000 (lit≤ tt))
    where
      sum : (e f g h a b c d w x y z s r q t : ℕ) → 2 * e ≤ a + w → 2 * f ≤ b + x → 2 * g ≤ c + y → 2 * h ≤ d + z → a + b + c + d ≤ s → w + x + y + z ≤ r → s ≤ q + 28 * t → r ≤ q + 28 * t → 1000 * t ≤ q
          → 32 * (e + f + g + h) ≤ 33 * q
      sum e f g h a b c d w x y z s r q t E F G H S R k l f' = omega arith

  coarse : (b : ℕ) → 32 * b ≤ 33 * (one * one) → b ≤ 2 ^ 7 * (one * one)
  coarse b h = omega arith

  pub multiplied : Unit 101 (Quaternion.mul rounded p q)
  unfolding squared_norm Quaternion.mul sub
  multiplied =
      let a = P.numbers in
      let b = Q.numbers in
      let l = each (square (count p.w)) (square (count p.x)) (square (count p.y)) (square (count p.z)) in
      let r = each (square (count q.w)) (square (count q.x)) (square (count q.y)) (square (count q.z)) in
      let hw = together (count p.w) (count p.x) (count p.y) (count p.z) (count q.w) (count q.x) (count q.y) (count q.z) (omega arith) (omega arith) in
      let hx = together (count p.w) (count p.x) (count p.y) (count p.z) (count q.x) (count q.w) (count q.z) (count q.y) (omega arith) (omega arith) in
      let hy = together (count p.w) (count p.x) (count p.y) (count p.z) (count q.y) (count q.z) (count q.w) (count q.x) (omega arith) (omega arith) in
      let hz = together (count p.w) (count p.x) (count p.y) (count p.z) (count q.z) (count q.y) (count q.x) (count q.w) (omega arith) (omega arith) in
      let W = component (in-turn (term a.w b.w l.0 r.0) (negated (term a.x b.x l.1 r.1)) (negated (term a.y b.y l.2 r.2)) (negated (term a.z b.z l.3 r.3)) (coarse _ hw)) hw in
      let X = component (in-turn (term a.w b.x l.0 r.1) (term a.x b.w l.1 r.0) (term a.y b.z l.2 r.3) (negated (term a.z b.y l.3 r.2)) (coarse _ hx)) hx in
      let Y = component (in-turn (term a.w b.y l.0 r.2) (negated (term a.x b.z l.1 r.3)) (term a.y b.w l.2 r.0) (term a.z b.x l.3 r.1) (coarse _ hy)) hy in
      let Z = component (in-turn (term a.w b.z l.0 r.3) (term a.x b.y l.1 r.2) (negated (term a.y b.x l.2 r.1)) (term a.z b.w l.3 r.0) (coarse _ hz)) hz in
      let e : squares (Quaternion.mul o (exactly p) (exactly q)) ≡ squared_norm p * squared_norm q = squares-mul (exactly p) (exactly q) ∙ rw (exactly-squares p, exactly-squares q) refl in
      let O = mul-pos one-pos one-pos in
      record {
        numbers = record { w = W.number; x = X.number; y = Y.number; z = Z.number };
        near = record {
          over = le_of_mul-le-mul_right (all-over _ _ _ _ _ _ _ _ _ tiny (one * one) W.near.over X.near.over Y.near.over Z.near.over e (norms-over _ _ tiny (one * one) P.near.over Q.near.over (tiny-few 1000 (lit≤ tt)))) O;
          under = le_of_mul-le-mul_right (all-under _ _ _ _ _ _ _ _ _ tiny (one * one) W.near.under X.near.under Y.near.under Z.near.under e (norms-under _ _ tiny (one * one) P.near.under Q.near.under P.near.over Q.near.over (tiny-few 4000 (lit≤ tt)))) O;
        };
      }
