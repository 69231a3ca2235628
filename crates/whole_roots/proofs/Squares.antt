-- Squares, and a whole root rounded to the nearest. Assumes nothing.
use mathlib.Core.Path.{◌≡◌, refl, ap}
use Prim.Native.Nat.{ℕ, zero, suc, ◌+◌, ◌-◌, ◌*◌, ◌/◌, ◌%◌, ◌^◌, ◌≤◌, ◌<◌}
use native.Mathlib.Nat.{lt_of_le_of_lt, mul-le-mul, lt_of_not-le, not-le_of_lt}
use native.Mathlib.Omega.{arith}
use Rattle.whole_roots.specs.Roots.{square, WholeRoot, Between}

-- a smaller square has a smaller root
pub square-lt : (a b : ℕ) → square a < square b → a < b
square-lt a b h = lt_of_not-le (λ (g : b ≤ a). not-le_of_lt h (mul-le-mul g g))

-- ---- the whole root h of x rounds to such a q, for an even x: no tie, since the square of an odd number is odd
from-odd : (x h k : ℕ) → x % 2 ≡ 0 → h ≡ 2 * k + 1 → WholeRoot x h → Between x ((h + 1) / 2)
from-odd x h k e o r =
    let s : square h ≡ square (2 * k + 1) = ap square o in
    record { odd = h; next = omega arith; above = omega (arith, r.low); under = omega (arith, r.high) }

from-even : (x h k : ℕ) → h ≡ 2 * k + 2 → WholeRoot x h → Between x ((h + 1) / 2)
from-even x h k o r =
    let s : square h ≡ square (2 * k + 2) = ap square o in
    let t : square (h + 1) ≡ square (2 * k + 2 + 1) = ap (λ (z : ℕ). square (z + 1)) o in
    record { odd = 2 * k + 1; next = omega arith; above = omega (arith, r.low); under = omega (arith, r.high) }

pub rounded : (x h : ℕ) → x % 2 ≡ 0 → 0 < h → WholeRoot x h → Between x ((h + 1) / 2)
rounded x h e H r = go (h % 2) refl
  where
    go : (p : ℕ) → h % 2 ≡ p → Between x ((h + 1) / 2)
    go zero p = from-even x h (h / 2 - 1) (omega arith) r
    go (suc _) p = from-odd x h (h / 2) e (omega arith) r

-- ---- the whole root of a * 2 ^ 54
pub root-low : (a h : ℕ) → 0 < a → WholeRoot (a * 2 ^ 54) h → 0 < h
root-low a h A r =
    let s = square-lt 1 (h + 1) (lt_of_le_of_lt (omega arith) r.high) in
    omega arith

pub root-near : (a h : ℕ) → 0 < a → WholeRoot (a * 2 ^ 54) h → Between (a * 2 ^ 54) ((h + 1) / 2)
root-near a h A r = rounded (a * 2 ^ 54) h (omega arith) (root-low a h A r) r
