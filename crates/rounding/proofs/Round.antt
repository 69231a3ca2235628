-- What `round` does to a fraction n / den of counts: the result is off by at most the fraction / 2 ^ 53 and half a count (`rounded-error`);
-- it is finite up to the limit (`round_number`). Assumes nothing.
use mathlib.Core.Path.{◌≡◌, sym, ap, ◌∙◌, subst}
use mathlib.Core.Logic.{inl, inr}
use mathlib.Core.Bool.{Bool, true, false, cond}
use Prim.Native.Nat.{ℕ, suc, ◌+◌, ◌*◌, ◌/◌, ◌%◌, ◌^◌, ◌≤◌, ◌<◌}
use native.Mathlib.Nat.{le_trans, le_of_eq, eq-zero-or-pos, mul_comm, mul_assoc, mul-one, mul-pos, mod-lt, div-add-mod', le-div_iff_mul-le, lt_of_mul-lt-mul_right, mul-le-mul_right}
use native.Mathlib.Omega.{arith}
use lib.Dec.{T, ltb, ltb→lt, lit<}
use lib.Pow.{pow-add, pow_pos}
use lib.Ieee.{Float, nan, inf, fin, Format, binary64, prec, emax, low, size, odd, units, round}
use lib.Ieee.Digits.{size_reaches}
use lib.Ieee.Fits.{round_is, round-fits}
use lib.Ieee.Exact.{HasValue, units_val}
use lib.Ieee.Order.{drop, kept}
use lib.Ieee.Nearest.{closest}
use lib.Ieee.Scale.{finite}
use Rattle.float.proofs.Counts.{Counted, counted}
use Rattle.rounding.specs.Number.{Number, limit}
use Rattle.rounding.specs.Error.{Within}
use Rattle.rounding.proofs.Integers.{dist}
use Rattle.rounding.proofs.Grid.{spot, half, all_in_use}

-- n / den of counts, rounded
abbrev pub rounded : ℕ → ℕ → ℕ
rounded n den = kept 53 n den * 2 ^ drop 53 n den

-- where digits are dropped, 53 are kept
full : (n den : ℕ) → 0 < den → 0 < drop 53 n den → 2 ^ 52 * 2 ^ drop 53 n den * den ≤ n
full n den D K =
    let k = drop 53 n den in
    (le-div_iff_mul-le D).0 (le_trans (le_of_eq (sym (pow-add 2 52 k))) (size_reaches (n / den) (52 + k) (all_in_use (size (n / den)) 53 (lit< tt) K)))

halved : (n den : ℕ) → 0 < den → dist (rounded n den * den) n * 2 ≤ den * 2 ^ drop 53 n den
halved n den D =
    let u = den * 2 ^ drop 53 n den in
    let U : 0 < u = mul-pos D (pow_pos (drop 53 n den)) in
    let e : rounded n den * den ≡ closest n u * u = mul_assoc (kept 53 n den) (2 ^ drop 53 n den) den ∙ ap (λ (x : ℕ). kept 53 n den * x) (mul_comm (2 ^ drop 53 n den) den) in
    subst (λ (x : ℕ). dist x n * 2 ≤ u) (sym e) (half u (n / u * u) (n % u) n (closest n u * u) (div-add-mod' n u) (mod-lt n U) (spot n u))

small-error : (d n den u : ℕ) → u ≡ 1 → d * 2 ≤ den * u → 2 ^ 53 * d ≤ n + 2 ^ 52 * den
small-error d n den u e h = let k : den * u ≡ den = ap (λ (x : ℕ). den * x) e ∙ mul-one den in omega arith

large-error : (d n den u : ℕ) → 2 ^ 52 * u * den ≤ n → d * 2 ≤ den * u → 2 ^ 53 * d ≤ n + 2 ^ 52 * den
large-error d n den u f h = omega arith

pub from-dist : (a b d : ℕ) → 2 ^ 53 * dist a b ≤ d → Within (2 ^ 53 * a) (2 ^ 53 * b) d
from-dist a b d h = omega arith

pub rounded-error : (n den : ℕ) → 0 < den → Within (2 ^ 53 * (rounded n den * den)) (2 ^ 53 * n) (n + 2 ^ 52 * den)
rounded-error n den D =
    let k = drop 53 n den in
    let c = rounded n den * den in
    from-dist c n (n + 2 ^ 52 * den)
    (elim (eq-zero-or-pos k) [
      | inl e ↦ small-error (dist c n) n den (2 ^ k) (ap (λ (x : ℕ). 2 ^ x) e) (halved n den D)
      | inr K ↦ large-error (dist c n) n den (2 ^ k) (full n den D K) (halved n den D)
    ])

-- ---- the count and the sign of what is finite
pub units-finite : (f : Format) (s : Bool) (q k : ℕ) → T (finite (units f s q k)) → HasValue (units f s q k) s (q * 2 ^ k) (2 ^ low f)
units-finite f s q k t = units_val f s q k (small t)
  where
    small : T (finite (units f s q k)) → q * 2 ^ k < 2 ^ (low f + suc (emax f))
    small = unfold units in go (ltb (q * 2 ^ k) (2 ^ (low f + suc (emax f)))) (ltb→lt (q * 2 ^ k) (2 ^ (low f + suc (emax f))))
      where
        go : (b : Bool) → (T b → q * 2 ^ k < 2 ^ (low f + suc (emax f))) → T (finite (cond b (odd (suc (prec f)) s q k (low f)) (inf s))) → q * 2 ^ k < 2 ^ (low f + suc (emax f))
        go true h t = h tt
        go false h t = absurd t

pub round-counted : (s : Bool) (num den : ℕ) → T (finite (round binary64 s num den)) → Counted (round binary64 s num den) s (rounded (num * 2 ^ 1074) den)
round-counted s num den t =
    let n = num * 2 ^ 1074 in
    let is = round_is binary64 s num den in
    counted (round binary64 s num den) s (rounded n den) (round-fits binary64 s num den)
    (subst (λ (x : Float). HasValue x s (rounded n den) (2 ^ 1074)) (sym is) (units-finite binary64 s (kept 53 n den) (drop 53 n den) (subst (λ (x : Float). T (finite x)) is t)))

-- ---- where it is finite
pub value-finite : (x : Float) (s : Bool) (a c : ℕ) → HasValue x s a c → T (finite x)
value-finite nan s a c v = absurd v
value-finite (inf t) s a c v = absurd v
value-finite (fin t m e) s a c v = tt

pub round_number : (s : Bool) (num den : ℕ) → 0 < den → num * 2 ^ 1074 ≤ limit * den → Number (round binary64 s num den)
unfolding limit
round_number s num den D h =
    let n = num * 2 ^ 1074 in
    let o = rounded-error n den D in
    let under : rounded n den < 4 * 2 ^ 2096 = lt_of_mul-lt-mul_right den (cap (rounded n den) n den (2 ^ 2096) D (pow_pos 2096) h o.over) in
    record {
      is_binary64 = round-fits binary64 s num den;
      is_finite =
          subst (λ (x : Float). T (finite x)) (sym (round_is binary64 s num den))
          (value-finite (units binary64 s (kept 53 n den) (drop 53 n den)) s (rounded n den) (2 ^ 1074) (units_val binary64 s (kept 53 n den) (drop 53 n den) under));
    }
  where
    cap : (r n den t : ℕ) → 0 < den → 0 < t → n ≤ t * den → 2 ^ 53 * (r * den) ≤ 2 ^ 53 * n + (n + 2 ^ 52 * den) → r * den < 4 * t * den
    cap r n den t D P h o = let k : 1 * den ≤ t * den = mul-le-mul_right den P in omega arith
