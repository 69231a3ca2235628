-- How the count of a finite binary64 stands to its fraction (`fraction`), and that its significand is below 2 ^ 53 (`digits`). Assumes nothing.
use mathlib.Core.Path.{◌≡◌, sym, ap, ◌∙◌}
use mathlib.Core.Bool.{Bool, ◌&&◌}
use Prim.Native.Nat.{ℕ, zero, suc, ◌+◌, ◌-◌, ◌*◌, ◌%◌, ◌^◌, ◌≤◌, ◌<◌}
use native.Mathlib.Nat.{lt_irrefl, lt_of_lt_of_le, lt_of_not-le, zero-mul, mul_comm, mul_assoc, mul-one, eq_of_mul-eq-mul_right}
use native.Mathlib.Decide.{dec_le}
use lib.Dec.{T, leb, ltb, eqb, leb→le, ltb→lt}
use lib.Pow.{pow-add, pow_pos, pow_mono, pow-lt}
use lib.IntN.{ℤ, pos, negsuc}
use lib.Ieee.{Float, nan, inf, fin, binary64, up, down, fits}
use lib.Ieee.Digits.{back}
use lib.Ieee.Exact.{HasValue}
use lib.Ieee.Fits.{and_l, and_r, down_pos}
use Rattle.float.specs.Exact.{shift, count, negative}

-- a smaller power of 2 has a smaller exponent
pub pow_lt_back : (i p : ℕ) → 2 ^ i < 2 ^ p → i < p
pow_lt_back i p h = lt_of_not-le (λ (g : p ≤ i). lt_irrefl (2 ^ i) (lt_of_lt_of_le h (pow_mono g)))

pow_le_back : (k l : ℕ) → 2 ^ k ≤ 2 ^ l → k ≤ l
pow_le_back k l h = go (dec_le k l)
  where
    go : Dec (k ≤ l) → k ≤ l
    go (yes a) = a
    go (no n) = absurd (lt_irrefl (2 ^ l) (lt_of_lt_of_le (pow-lt (lt_of_not-le n)) h))

above : (m l k : ℕ) → m * 2 ^ k * 2 ^ l ≡ m * 2 ^ (l + k) * 1
above m l k = mul_assoc m (2 ^ k) (2 ^ l) ∙ ap (λ (x : ℕ). m * x) (mul_comm (2 ^ k) (2 ^ l) ∙ sym (pow-add 2 l k)) ∙ sym (mul-one (m * 2 ^ (l + k)))

beneath : (m l k : ℕ) → k ≤ l → m * 1 * 2 ^ l ≡ m * 2 ^ (l - k) * 2 ^ k
beneath m l k h = ap (λ (x : ℕ). x * 2 ^ l) (mul-one m) ∙ ap (λ (x : ℕ). m * 2 ^ x) (sym (back l k h)) ∙ ap (λ (x : ℕ). m * x) (pow-add 2 (l - k) k) ∙ sym (mul_assoc m (2 ^ (l - k)) (2 ^ k))

scaled : (m : ℕ) (e : ℤ) → down e ≤ 2 ^ 1074 → m * up e * 2 ^ 1074 ≡ m * 2 ^ shift e * down e
scaled m (pos k) h = above m 1074 k
scaled m (negsuc k) h = beneath m 1074 (suc k) (pow_le_back (suc k) 1074 h)

none : (a b c d : ℕ) → 0 * a * b ≡ 0 * c * d
none a b c d = ap (λ (x : ℕ). x * b) (zero-mul a) ∙ zero-mul b ∙ sym (ap (λ (x : ℕ). x * d) (zero-mul c) ∙ zero-mul d)

-- what `fits` says of a significand that is not 0
pub record Parts (m : ℕ) (e : ℤ) : Type 0 where
  pub digits : m < 2 ^ 53
  pub grain : down e ≤ 2 ^ 1074

pub parts : (s : Bool) (m : ℕ) (e : ℤ) → T (fits binary64 (fin s (suc m) e)) → Parts (suc m) e
unfolding fits
parts s m e t =
    let a : Bool = eqb (suc m % 2) 1 in
    let b : Bool = ltb (suc m) (2 ^ 53) in
    let c : Bool = leb (down e) (2 ^ 1074) in
    let abc : T (a && b && c) = and_l (a && b && c) (ltb (suc m * up e) (2 ^ 1024 * down e)) t in
    record {
      digits = ltb→lt (suc m) (2 ^ 53) (and_r a b (and_l (a && b) c abc));
      grain = leb→le (down e) (2 ^ 1074) (and_r (a && b) c abc);
    }

-- m * 2 ^ e is m * 2 ^ shift e counts of 2 ^ -1074
pub fraction : (s : Bool) (m : ℕ) (e : ℤ) → T (fits binary64 (fin s m e)) → m * up e * 2 ^ 1074 ≡ m * 2 ^ shift e * down e
fraction s zero e t = none (up e) (2 ^ 1074) (2 ^ shift e) (down e)
fraction s (suc m) e t = scaled (suc m) e (parts s m e t).grain

pub digits : (s : Bool) (m : ℕ) (e : ℤ) → T (fits binary64 (fin s m e)) → m < 2 ^ 53
digits s zero e t = pow_pos 53
digits s (suc m) e t = (parts s m e t).digits

-- a number of a counts in size, with the sign s
pub record Counted (x : Float) (s : Bool) (a : ℕ) : Type 0 where
  pub size : count x ≡ a
  pub sign : negative x ≡ s

pub counted : (x : Float) (s : Bool) (a : ℕ) → T (fits binary64 x) → HasValue x s a (2 ^ 1074) → Counted x s a
unfolding count negative
counted nan s a t v = absurd v
counted (inf u) s a t v = absurd v
counted (fin u m e) s a t v = record { size = eq_of_mul-eq-mul_right (down e) (down_pos e) (m * 2 ^ shift e) a (sym (fraction u m e t) ∙ v.1); sign = v.0 }
