-- What the square root of a number above zero is, over whole numbers: the crate `rounding` states its error by it. Assumes nothing.
use mathlib.Core.Path.{◌≡◌, sym, ap, ◌∙◌, subst}
use mathlib.Core.Logic.{inl, inr}
use mathlib.Core.Bool.{false}
use Prim.Native.Nat.{ℕ, suc, ◌+◌, ◌-◌, ◌*◌, ◌/◌, ◌%◌, ◌^◌, ◌≤◌, ◌<◌}
use native.Mathlib.Nat.{le_trans, le_of_eq, mul-mul-mul_comm, lt_of_lt_of_le, lt_irrefl, mul-pos, mul-le-mul_right, mul-lt-mul_of_pos_right, eq-zero-or-pos}
use native.Mathlib.Omega.{arith}
use lib.Dec.{T}
use lib.Pow.{pow_pos, pow_mono, shl_lt}
use lib.IntN.{ℤ}
use lib.Ieee.{Float, fin, binary64, fits, to_bits}
use lib.Ieee.Exact.{HasValue, units_val}
use Rattle.float.specs.Exact.{count}
use Rattle.whole_roots.specs.Roots.{square, Between}
use Rattle.whole_roots.proofs.Squares.{root-near}
use Rattle.float.specs.Root.{isqrt, nearest_root, square_root}
use Rattle.float.specs.Steps.{Split, pattern_count}
use Rattle.float.specs.declared.Scaled.{Scaled}
use Rattle.float.proofs.Isqrt.{isqrt-root}
use Rattle.float.proofs.Candidate.{confirmed, scaled}
use Rattle.float.proofs.Patterns.{read, split-low, split-high}
use Rattle.float.proofs.SquareRoot.{even-of, near-low, near-high}

-- the root is q * 2 ^ k counts, q having 53 digits, and n lies strictly between the squares of q - 1/2 and q + 1/2 times 2 ^ k, all times 2
pub record Rounding (r : Float) (n : ℕ) : Type 0 where
  pub q : ℕ
  pub k : ℕ
  pub odd : ℕ
  pub next : odd + 1 ≡ 2 * q
  pub low : 2 ^ 52 ≤ q
  pub value : HasValue r false (q * 2 ^ k) (2 ^ 1074)
  pub above : square (odd * 2 ^ k) < 4 * n
  pub under : 4 * n < square ((odd + 2) * 2 ^ k)
  pub least : square (2 ^ 52 * 2 ^ k) ≤ n

-- a square below or above a number, both times the square of the unit u
square-under : (o u a n : ℕ) → n ≡ a * square u → 0 < square u → square o < a → square (o * u) < n
square-under o u a n e W h = rw (mul-mul-mul_comm o u o u, e) (mul-lt-mul_of_pos_right h W)

square-over : (o u a n : ℕ) → n ≡ a * square u → 0 < square u → a < square o → n < square (o * u)
square-over o u a n e W h = rw (mul-mul-mul_comm o u o u, e) (mul-lt-mul_of_pos_right h W)

of-split : (n : ℕ) (s : Scaled) → Split n s → Rounding (nearest_root n) n
of-split n s p =
    let m = s.m in
    let j = s.j in
    let e = even-of m j p.low p.high in
    let a = m * 2 ^ (j % 2) in
    let h = isqrt 54 (a * 2 ^ 54) in
    let b : Between (a * 2 ^ 54) ((h + 1) / 2) = root-near a h (omega (arith, e.low)) (isqrt-root 54 (a * 2 ^ 54) (omega (arith, e.high))) in
    let q = (h + 1) / 2 in
    let k = j / 2 - 26 in
    let w = square (2 ^ k) in
    let W : 0 < w = mul-pos (pow_pos k) (pow_pos k) in
    let J : j < 3120 = p.near in
    let F : 1022 ≤ j = p.far in
    let Q : q < 2 ^ 53 = near-high a q e.high b in
    let is : n ≡ a * 2 ^ 52 * w = sym p.exact ∙ scaled m j (omega arith) in
    let four : 4 * n ≡ a * 2 ^ 54 * w = ap (λ (x : ℕ). 4 * x) is ∙ times a w in
    record {
      q = q;
      k = k;
      odd = b.odd;
      next = b.next;
      low = near-low a q e.low b;
      value =
          subst (λ (x : Float). HasValue x false (q * 2 ^ k) (2 ^ 1074))
          (sym (ap nearest_root (sym p.exact) ∙ confirmed m j q p.low p.high (omega arith) (omega (arith, e.high)) b))
          (units_val binary64 false q k (lt_of_lt_of_le (shl_lt 53 k Q) (pow_mono {i = 53 + k} {j = 2098} (omega arith))));
      above = square-under b.odd (2 ^ k) (a * 2 ^ 54) (4 * n) four W b.above;
      under = square-over (b.odd + 2) (2 ^ k) (a * 2 ^ 54) (4 * n) four W b.under;
      least = le_trans (le_of_eq (mul-mul-mul_comm (2 ^ 52) (2 ^ k) (2 ^ 52) (2 ^ k))) (le_trans (mul-le-mul_right w (mul-le-mul_right (2 ^ 52) e.low)) (le_of_eq (sym is)));
    }
  where
    times : (a w : ℕ) → 4 * (a * 2 ^ 52 * w) ≡ a * 2 ^ 54 * w
    times a w = omega arith

of-pattern : (b : ℕ) → 0 < b → b < 0x7ff0_0000_0000_0000 → Rounding (nearest_root (pattern_count b * 2 ^ 1074)) (pattern_count b * 2 ^ 1074)
of-pattern b p f = elim (eq-zero-or-pos (b / 2 ^ 52)) [
  | inl z ↦ of-split (pattern_count b * 2 ^ 1074) _ (split-low b p z)
  | inr g ↦ of-split (pattern_count b * 2 ^ 1074) _ (split-high b f (λ (z : b / 2 ^ 52 ≡ 0). lt_irrefl 0 (subst (λ (x : ℕ). 0 < x) z g)))
]

pub rounding : (m : ℕ) (e : ℤ) → T (fits binary64 (fin false (suc m) e)) → Rounding (square_root (fin false (suc m) e)) (count (fin false (suc m) e) * 2 ^ 1074)
unfolding square_root
rounding m e t =
    let g = read m e t in
    subst (λ (n : ℕ). Rounding (nearest_root (n * 2 ^ 1074)) (n * 2 ^ 1074)) (sym g.counted) (of-pattern (to_bits binary64 (fin false (suc m) e)) g.some g.finite)
