-- `isqrt d n` is the whole square root of an n below 4 ^ d. Nothing here is about floats. Assumes nothing.
use mathlib.Core.Path.{subst}
use mathlib.Core.Bool.{Bool, true, false, not, cond}
use Prim.Native.Nat.{ℕ, zero, suc, ◌+◌, ◌*◌, ◌/◌, ◌^◌, ◌≤◌, ◌<◌}
use native.Mathlib.Nat.{pow-suc, div-lt_iff_lt-mul, zero-lt-suc}
use native.Mathlib.Omega.{arith}
use lib.Dec.{T, leb, leb→le, nleb→lt}
use Rattle.whole_roots.specs.Roots.{square, WholeRoot}
use Rattle.float.specs.Root.{digit, isqrt}

digit-root : (r n : ℕ) → WholeRoot (n / 4) r → WholeRoot n (digit r n)
unfolding digit
digit-root r n h = go (leb (square (2 * r + 1)) n) (leb→le (square (2 * r + 1)) n) (nleb→lt (square (2 * r + 1)) n)
  where
    go : (b : Bool) → (T b → square (2 * r + 1) ≤ n) → (T (not b) → n < square (2 * r + 1)) → WholeRoot n (cond b (2 * r + 1) (2 * r))
    go true y z = let y' = y tt in omega (arith, h.low, h.high)
    go false y z = let z' = z tt in omega (arith, h.low, h.high)

nothing : (n : ℕ) → n < 1 → WholeRoot n 0
nothing n h = omega arith

pub isqrt-root : (d n : ℕ) → n < 4 ^ d → WholeRoot n (isqrt d n)
unfolding isqrt
isqrt-root zero n h = nothing n h
isqrt-root (suc d) n h = digit-root (isqrt d (n / 4)) n (isqrt-root d (n / 4) ((div-lt_iff_lt-mul (zero-lt-suc 3)).1 (subst (λ (x : ℕ). n < x) (pow-suc 4 d) h)))
