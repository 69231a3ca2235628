-- Sums and differences in ℤ, for `omega`, which reads ℕ alone: each integer is its part above 0 less its part below. Assumes nothing.
use mathlib.Core.Path.{◌≡◌, refl, sym, ap, ◌∙◌}
use mathlib.Core.Bool.{Bool, true, false, not, cond}
use Prim.Native.Nat.{ℕ, zero, suc, ◌+◌, ◌-◌, ◌*◌, ◌≤◌, ◌<◌}
use native.Mathlib.Nat.{mul-zero, zero-mul}
use native.Mathlib.Omega.{arith}
use lib.Dec.{T, ltb, ltb→lt, nltb→le}
use lib.IntN.{ℤ, pos, negsuc, neg_ℤ, nat_abs, sub_ℕ, ◌+ℤ◌, ◌-ℤ◌, ◌*ℤ◌, pos-*ℤ-pos, negsuc-*ℤ-pos, pos-*ℤ-negsuc, negsuc-*ℤ-negsuc, zero-*ℤ, *ℤ-zero}
use lib.Ieee.{unlike}
use Rattle.float.specs.Exact.{signed}

-- |a - b|
abbrev pub dist : ℕ → ℕ → ℕ
dist a b = (a - b) + (b - a)

abbrev pub above : ℤ → ℕ
above (pos n) = n
above (negsuc n) = 0

abbrev pub below : ℤ → ℕ
below (pos n) = 0
below (negsuc n) = suc n

-- z is a - b
abbrev pub Difference : ℤ → ℕ → ℕ → Type 0
Difference z a b = above z + b ≡ below z + a

pub difference-self : (z : ℤ) → Difference z (above z) (below z)
difference-self z = omega arith

difference-sub : (a b : ℕ) → Difference (sub_ℕ a b) a b
difference-sub a b = go (ltb a b) (ltb→lt a b) (nltb→le a b)
  where
    go : (c : Bool) → (T c → a < b) → (T (not c) → b ≤ a) → Difference (cond c (negsuc (b - suc a)) (pos (a - b))) a b
    go true h k = omega (arith, h tt)
    go false h k = omega (arith, k tt)

pub difference-neg : (x : ℤ) (a b : ℕ) → Difference x a b → Difference (neg_ℤ x) b a
difference-neg (pos zero) a b h = omega arith
difference-neg (pos (suc n)) a b h = omega arith
difference-neg (negsuc n) a b h = omega arith

pub difference-add : (x y : ℤ) (a b c d : ℕ) → Difference x a b → Difference y c d → Difference (x +ℤ y) (a + c) (b + d)
difference-add (pos m) (pos n) a b c d h k = omega arith
difference-add (pos m) (negsuc n) a b c d h k = omega (arith, difference-sub m (suc n))
difference-add (negsuc m) (pos n) a b c d h k = omega (arith, difference-sub n (suc m))
difference-add (negsuc m) (negsuc n) a b c d h k = omega arith

pub difference-less : (x y : ℤ) (a b c d : ℕ) → Difference x a b → Difference y c d → Difference (x -ℤ y) (a + d) (b + c)
difference-less x y a b c d h k = difference-add x (neg_ℤ y) a b d c h (difference-neg y c d k)

-- so |z| is |a - b|
pub difference-abs : (z : ℤ) (a b : ℕ) → Difference z a b → nat_abs z ≡ dist a b
difference-abs (pos n) a b h = omega arith
difference-abs (negsuc n) a b h = omega arith

-- |x + y| ≤ |x| + |y|
triangle : (a b c d : ℕ) → dist (a + c) (b + d) ≤ dist a b + dist c d
triangle a b c d = omega arith

pub abs-add : (x y : ℤ) → nat_abs (x +ℤ y) ≤ nat_abs x + nat_abs y
abs-add x y =
    rw (
      difference-abs (x +ℤ y) (above x + above y) (below x + below y) (difference-add x y _ _ _ _ (difference-self x) (difference-self y)),
      difference-abs x (above x) (below x) (difference-self x),
      difference-abs y (above y) (below y) (difference-self y),
    )
    (triangle (above x) (below x) (above y) (below y))

pub difference-minus : (n : ℕ) → Difference (signed true n) 0 n
difference-minus zero = refl
difference-minus (suc n) = omega arith

pub difference-times : (z : ℤ) (c : ℕ) → Difference (z *ℤ pos c) (above z * c) (below z * c)
difference-times (pos n) c = omega arith
difference-times (negsuc n) c = rw (zero-mul c) (difference-minus (suc n * c))

-- products of signed numbers, and the distance of two of one sign
pub signed-mul : (s t : Bool) (a b : ℕ) → signed s a *ℤ signed t b ≡ signed (unlike s t) (a * b)
signed-mul false false a b = pos-*ℤ-pos a b
signed-mul true false zero b = zero-*ℤ (pos b) ∙ ap (λ (n : ℕ). neg_ℤ (pos n)) (sym (zero-mul b))
signed-mul true false (suc a) b = negsuc-*ℤ-pos a b
signed-mul false true a zero = *ℤ-zero (pos a) ∙ ap (λ (n : ℕ). neg_ℤ (pos n)) (sym (mul-zero a))
signed-mul false true a (suc b) = pos-*ℤ-negsuc a b
signed-mul true true zero b = zero-*ℤ (neg_ℤ (pos b)) ∙ ap pos (sym (zero-mul b))
signed-mul true true (suc a) zero = *ℤ-zero (negsuc a) ∙ ap pos (sym (mul-zero (suc a)))
signed-mul true true (suc a) (suc b) = negsuc-*ℤ-negsuc a b

pub signed-less : (s : Bool) (a b : ℕ) → nat_abs (signed s a -ℤ signed s b) ≡ dist a b
signed-less false a b = difference-abs _ (a + 0) (0 + b) (difference-less (pos a) (pos b) a 0 b 0 (difference-self (pos a)) (difference-self (pos b))) ∙ omega arith
signed-less true a b = difference-abs _ (0 + b) (a + 0) (difference-less (signed true a) (signed true b) 0 a 0 b (difference-minus a) (difference-minus b)) ∙ omega arith

pub abs_neg : (x : ℤ) → nat_abs (neg_ℤ x) ≡ nat_abs x
abs_neg (pos zero) = refl
abs_neg (pos (suc n)) = refl
abs_neg (negsuc n) = refl
