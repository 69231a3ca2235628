-- IEEE 754's squareRoot at binary64, by comparing squares of whole numbers, in the shape of lib.Ieee's `round`. Definitions only.
-- That the result is the nearest binary64 to the root is a theorem (`sqrt-root` of the crate `rounding`).
use Prim.Native.Nat.{ℕ, zero, suc, ◌+◌, ◌-◌, ◌*◌, ◌/◌, ◌^◌, compare}
use Rattle.std.specs.Prelude.{true, false, cond, leb, Float}
use Rattle.std.specs.Float.{nan, inf, fin, binary64}
use Rattle.std.specs.Float.Ieee.{prec, low, size, nearest, units, of_bits, to_bits}
use Rattle.whole_roots.specs.Roots.{square}
use Rattle.float.specs.Exact.{count}

-- The whole square root of n, from r, the one of n / 4: 2 * r + 1 if its square is at most n, and 2 * r otherwise.
unfoldable pub digit : ℕ → ℕ → ℕ
digit r n = cond (leb (square (2 * r + 1)) n) (2 * r + 1) (2 * r)

-- The whole square root of an n below 4 ^ d: the largest r with r * r ≤ n.
unfoldable pub isqrt : ℕ → ℕ → ℕ
unfolding digit
isqrt zero n = 0
isqrt (suc d) n = digit (isqrt d (n / 4)) n

-- The binary64 number nearest to the square root of n, which is a count of 2 ^ -1074; a tie would go to the even one.
-- The root has half as many binary digits as n. The leading 53 are kept and k are dropped, so the result is r or r + 1 times u,
-- by how n compares with the square of r + 1/2 times u. Both are taken times 4.
unfoldable pub nearest_root : ℕ → Float
nearest_root n =
    let k = suc (size n) / 2 - prec binary64 in
    let u = 2 ^ k in
    let r = isqrt (prec binary64) (n / square u) in
    units binary64 false (nearest r (compare (4 * n) (square ((2 * r + 1) * u)))) k

-- The root of a number of n counts is that of n * 2 ^ 1074, in counts.
unfoldable pub square_root : Float → Float
square_root nan = nan
square_root (inf true) = nan
square_root (inf false) = inf false
square_root (fin s zero e) = fin s zero e
square_root (fin true (suc m) e) = nan
square_root (fin false (suc m) e) = nearest_root (count (fin false (suc m) e) * 2 ^ low binary64)

-- The same on bit patterns. Every NaN pattern is read as the NaN, and the NaN is written as 7FF8000000000000.
unfoldable pub square_root_bits : ℕ → ℕ
square_root_bits b = to_bits binary64 (square_root (of_bits binary64 b))
