-- n rounded additions from +0 are off by at most n - 1 times the sum of the magnitudes / 2 ^ 53, for every n (Jeannerod and Rump, 2013; the first addition
-- is exact). Assumes nothing.
use mathlib.Core.Path.{◌≡◌, refl, ap, subst}
use Prim.Native.Nat.{ℕ, zero, suc, ◌+◌, ◌-◌, ◌*◌, ◌^◌, ◌≤◌, ◌<◌}
use native.Mathlib.Nat.{le_trans, le_of_eq, le_of_lt, lt_of_not-le, mul_left_comm, mul-add, suc-mul, zero-mul, mul-le-mul_left, le_of_mul-le-mul_left}
use native.Mathlib.Decide.{dec_le}
use native.Mathlib.Omega.{arith}
use lib.Dec.{T, lit<, lit≤}
use lib.IntN.{ℤ, pos, nat_abs, ◌+ℤ◌, ◌-ℤ◌, -ℤ-+ℤ_cancel}
use lib.Ieee.{Float, binary64, of_bits, add, fits}
use lib.Ieee.Fits.{add-fits}
use lib.Ieee.Scale.{finite}
use Rattle.float.specs.Exact.{exact, count}
use Rattle.rounding.specs.Number.{Number}
use Rattle.rounding.specs.Error.{RoundedSum}
use Rattle.rounding.proofs.Laws.{dist, above, below, difference-self, difference-add, difference-less, difference-abs, abs-add, add-error, exact-size}

-- ---- over integers
-- the error after a step is at most the addition's own and the one before
step-error : (z t s x : ℤ) → nat_abs (z -ℤ (s +ℤ x)) ≤ nat_abs (z -ℤ (t +ℤ x)) + nat_abs (t -ℤ s)
step-error z t s x =
    rw (
      difference-abs (z -ℤ (s +ℤ x)) (above z + (below s + below x)) (below z + (above s + above x)) (difference-less z (s +ℤ x) _ _ _ _ (difference-self z) (difference-add s x _ _ _ _ (difference-self s) (difference-self x))),
      difference-abs (z -ℤ (t +ℤ x)) (above z + (below t + below x)) (below z + (above t + above x)) (difference-less z (t +ℤ x) _ _ _ _ (difference-self z) (difference-add t x _ _ _ _ (difference-self t) (difference-self x))),
      difference-abs (t -ℤ s) (above t + below s) (below t + above s) (difference-less t s _ _ _ _ (difference-self t) (difference-self s)),
    )
    (go (above z) (below z) (above t) (below t) (above s) (below s) (above x) (below x))
  where
    go : (z z' t t' s s' x x' : ℕ) → dist (z + (s' + x')) (z' + (s + x)) ≤ dist (z + (t' + x')) (z' + (t + x)) + dist (t + s') (t' + s)
    go z z' t t' s s' x x' = omega arith

size_of : (t s : ℤ) → nat_abs t ≤ nat_abs (t -ℤ s) + nat_abs s
size_of t s = subst (λ (v : ℤ). nat_abs v ≤ nat_abs (t -ℤ s) + nat_abs s) (-ℤ-+ℤ_cancel t s) (abs-add (t -ℤ s) s)

-- ---- one step of the induction, in whole numbers: d and d' are the errors before and after, e the addition's own, s and x the magnitudes of the sum and of
-- the step's time, and w that of the two together
module _ (k M d d' e w s x : ℕ)
    (whole : d' ≤ e + d) (part : 2 ^ 53 * e ≤ w) (near : e ≤ x) (sum : w ≤ d + s + x) (size : s ≤ M) (before : 2 ^ 53 * d ≤ k * M) where
  small : 2 ^ 53 * x ≤ M → 2 ^ 53 * d' ≤ suc k * (M + x)
  small h = rw (suc-mul k (M + x), mul-add k M x) (omega arith)

  large : M < 2 ^ 53 * x → 2 ^ 53 * d' ≤ suc k * (M + x)
  large h =
      let l : d ≤ k * x = le_of_mul-le-mul_left (le_trans before (le_trans (mul-le-mul_left k (le_of_lt h)) (le_of_eq (mul_left_comm k (2 ^ 53) x)))) (lit< tt) in
      rw (suc-mul k (M + x), mul-add k M x) (omega arith)

  next : 2 ^ 53 * d' ≤ suc k * (M + x)
  next = go (dec_le (2 ^ 53 * x) M)
    where
      go : Dec (2 ^ 53 * x ≤ M) → 2 ^ 53 * d' ≤ suc k * (M + x)
      go (yes h) = small h
      go (no h) = large (lt_of_not-le h)

-- ---- what holds after n additions that led to t: S is the exact sum, M that of the magnitudes
pub record Summed (t : Float) (n : ℕ) (S : ℤ) (M : ℕ) : Type 0 where
  pub number : Number t
  pub bound : 2 ^ 53 * nat_abs (exact t -ℤ S) ≤ (n - 1) * M
  pub size : nat_abs S ≤ M
  pub begun : n ≡ 0 → (exact t ≡ pos 0) × (S ≡ pos 0)

pub starts : Summed (of_bits binary64 0) 0 (pos 0) 0
unfolding of_bits exact count fits
starts = record { number = record { is_binary64 = tt; is_finite = tt }; bound = lit≤ tt; size = lit≤ tt; begun = λ e. (refl, refl) }

-- one addition: its own error, and what that is at most
module _ (t x : Float) (S : ℤ) (M : ℕ) (T₁ : Number t) (X : Number x) (size : nat_abs S ≤ M) (h : T (finite (add binary64 t x))) where
  own : RoundedSum (exact t) (exact x) (exact (add binary64 t x))
  own = add-error T₁ X h

  width : nat_abs (exact t +ℤ exact x) ≤ nat_abs (exact t -ℤ S) + nat_abs S + nat_abs (exact x)
  width = through _ _ _ _ _ (abs-add (exact t) (exact x)) (size_of (exact t) S)
    where
      through : (a b c d e : ℕ) → a ≤ b + c → b ≤ d + e → a ≤ d + e + c
      through a b c d e h k = omega arith

  later : (k : ℕ) → 2 ^ 53 * nat_abs (exact t -ℤ S) ≤ k * M → 2 ^ 53 * nat_abs (exact (add binary64 t x) -ℤ (S +ℤ exact x)) ≤ suc k * (M + nat_abs (exact x))
  later k b =
      next k M (nat_abs (exact t -ℤ S)) (nat_abs (exact (add binary64 t x) -ℤ (S +ℤ exact x))) (nat_abs (exact (add binary64 t x) -ℤ (exact t +ℤ exact x))) (nat_abs (exact t +ℤ exact x)) (nat_abs S) (nat_abs (exact x))
      (step-error (exact (add binary64 t x)) (exact t) S (exact x)) own.relative own.right width size b

  -- from +0 the addition is exact
  first : exact t ≡ pos 0 → S ≡ pos 0 → nat_abs (exact (add binary64 t x) -ℤ (S +ℤ exact x)) ≡ 0
  first p q = none _ _ _ (step-error (exact (add binary64 t x)) (exact t) S (exact x)) (le_trans own.left (le_of_eq (ap nat_abs p))) (rw (p, q))
    where
      none : (d a b : ℕ) → d ≤ a + b → a ≤ 0 → b ≡ 0 → d ≡ 0
      none d a b h k l = omega arith

pub adds : {t : Float} {n : ℕ} {S : ℤ} {M : ℕ} (x : Float) → Summed t n S M → Number x → T (finite (add binary64 t x)) → Summed (add binary64 t x) (suc n) (S +ℤ exact x) (M + count x)
adds {t} {n} {S} {M} x i X h =
    record {
      number = record { is_binary64 = add-fits binary64 t x; is_finite = h };
      bound = let e : suc n - 1 ≡ n = omega arith in rw (e, ← exact-size x) (bounded n i);
      size = rw (← exact-size x) (le_trans (abs-add S (exact x)) (wider _ _ _ i.size));
      begun = λ e. absurd (never n e);
    }
  where
    wider : (a b c : ℕ) → a ≤ b → a + c ≤ b + c
    wider a b c h = omega arith

    never : (n : ℕ) → suc n ≡ 0 → ⊥
    never n e = omega arith

    zeros : (d m : ℕ) → d ≡ 0 → 2 ^ 53 * d ≤ 0 * m
    zeros d m e = rw (e, zero-mul m) (lit≤ tt)

    bounded : (n : ℕ) → Summed t n S M → 2 ^ 53 * nat_abs (exact (add binary64 t x) -ℤ (S +ℤ exact x)) ≤ n * (M + nat_abs (exact x))
    bounded zero i = zeros _ _ (first t x S M i.number X i.size h (i.begun refl).0 (i.begun refl).1)
    bounded (suc k) i = later t x S M i.number X i.size h k (less k i)
      where
        less : (k : ℕ) → Summed t (suc k) S M → 2 ^ 53 * nat_abs (exact t -ℤ S) ≤ k * M
        less k i = let e : suc k - 1 ≡ k = omega arith in rw e at i.bound
