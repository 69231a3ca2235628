-- A pattern with its sign cleared (`cleared`), and the finite test of a pattern (`finite-pattern`). Assumes nothing.
use mathlib.Core.Path.{◌≡◌, refl, sym, ap, ◌∙◌, subst}
use mathlib.Core.Bool.{Bool, true, false, not, cond, false≢true}
use Prim.Native.Nat.{ℕ, zero, suc, ◌+◌, ◌/◌, ◌%◌, ◌^◌, ◌≤◌, ◌<◌}
use native.Mathlib.Nat.{lt_of_not-le, le_of_eq}
use native.Mathlib.Decide.{dec_le}
use native.Mathlib.Omega.{arith}
use borrow.Author.Tests.{lt-ltb, le-ltb, lt-leb}
use lib.Dec.{T, leb, ltb, eqb, eqb→eq}
use lib.Ieee.{Float, nan, inf, fin, binary64, fits, is_nan, nan_bits, ne, odd, of_fields, of_bits, to_bits}
use lib.Ieee.Compare.{differs_from_itself}
use lib.Ieee.Scale.{finite}
use lib.Ieee.Bits.{of_bits-to_bits, nan_bits_is}
use Rattle.float.specs.Exact.{abs}
use Rattle.float.proofs.Patterns.{bits_are, field_lt}

-- ---- the sign
abs-odd : (d : ℕ) (s : Bool) (q k l : ℕ) → odd d false q k l ≡ abs (odd d s q k l)
unfolding odd abs
abs-odd d s zero k l = refl
abs-odd d s (suc q) k l = refl

abs-fields : (s : Bool) (f t : ℕ) → of_fields binary64 false f t ≡ abs (of_fields binary64 s f t)
unfolding of_fields abs
abs-fields s zero t = abs-odd 53 s t 0 1074
abs-fields s (suc f) t = go (eqb (suc f) 2047) (eqb t 0)
  where
    go : (y z : Bool) → cond y (cond z (inf false) nan) (odd 53 false (2 ^ 52 + t) f 1074) ≡ abs (cond y (cond z (inf s) nan) (odd 53 s (2 ^ 52 + t) f 1074))
    go true true = refl
    go true false = refl
    go false z = abs-odd 53 s (2 ^ 52 + t) f 1074

cleared : (b : ℕ) → of_bits binary64 (b % 2 ^ 63) ≡ abs (of_bits binary64 b)
cleared b =
    let n : leb (2 ^ 63) (b % 2 ^ 63) ≡ false = lt-leb (2 ^ 63) (b % 2 ^ 63) (omega arith) in
    let f : b % 2 ^ 63 % 2 ^ 63 / 2 ^ 52 ≡ b % 2 ^ 63 / 2 ^ 52 = omega arith in
    let t : b % 2 ^ 63 % 2 ^ 52 ≡ b % 2 ^ 52 = omega arith in
    bits_are (b % 2 ^ 63) ∙ rw (n, f, t) (abs-fields (leb (2 ^ 63) b) (b % 2 ^ 63 / 2 ^ 52) (b % 2 ^ 52)) ∙ ap abs (sym (bits_are b))

pub magnitude-bits : (x : Float) → T (fits binary64 x) → of_bits binary64 (to_bits binary64 x % 2 ^ 63) ≡ abs x
magnitude-bits x h = cleared (to_bits binary64 x) ∙ ap abs (of_bits-to_bits binary64 x h)

abs-nan : (x : Float) → is_nan (abs x) ≡ is_nan x
unfolding is_nan abs
abs-nan nan = refl
abs-nan (inf s) = refl
abs-nan (fin s m e) = refl

pub cleared-not-nan : (x : Float) → T (fits binary64 x) → T (not (is_nan x)) → T (not (nan_bits binary64 (to_bits binary64 x % 2 ^ 63)))
cleared-not-nan x h = subst (λ (t : Bool). T (not t)) (sym (nan_bits_is binary64 (to_bits binary64 x % 2 ^ 63) ∙ ap is_nan (magnitude-bits x h) ∙ abs-nan x))

pub nan-itself : (x : Float) → ne x x ≡ true → x ≡ abs x
unfolding abs
nan-itself x e = rw (differs_from_itself x (subst T (sym e) tt))

-- ---- the exponent's field
finite-odd : (d : ℕ) (s : Bool) (q k l : ℕ) → finite (odd d s q k l) ≡ true
unfolding odd
finite-odd d s zero k l = refl
finite-odd d s (suc q) k l = refl

finite-fields : (s : Bool) (f t : ℕ) → f < 2048 → finite (of_fields binary64 s f t) ≡ ltb f 2047
unfolding of_fields
finite-fields s zero t h = finite-odd 53 s t 0 1074
finite-fields s (suc f) t h = go (eqb (suc f) 2047) (eqb t 0) (eqb→eq (suc f) 2047) (λ (k : suc f ≡ 2047). subst (λ (x : ℕ). T (eqb x 2047)) (sym k) tt)
  where
    less : (x : ℕ) → x < 2048 → (x ≡ 2047 → ⊥) → x < 2047
    less x a b = omega arith

    go : (y z : Bool) → (T y → suc f ≡ 2047) → (suc f ≡ 2047 → T y) → finite (cond y (cond z (inf s) nan) (odd 53 s (2 ^ 52 + t) f 1074)) ≡ ltb (suc f) 2047
    go true true p q = sym (le-ltb (suc f) 2047 (le_of_eq (sym (p tt))))
    go true false p q = sym (le-ltb (suc f) 2047 (le_of_eq (sym (p tt))))
    go false z p q = finite-odd 53 s (2 ^ 52 + t) f 1074 ∙ sym (lt-ltb (suc f) 2047 (less (suc f) h q))

pub finite-pattern : (b : ℕ) → ltb (b % 2 ^ 63) 0x7ff0_0000_0000_0000 ≡ finite (of_bits binary64 b)
finite-pattern b = go (dec_le 0x7ff0_0000_0000_0000 (b % 2 ^ 63)) ∙ sym (ap finite (bits_are b) ∙ finite-fields (leb (2 ^ 63) b) (b % 2 ^ 63 / 2 ^ 52) (b % 2 ^ 52) (field_lt b))
  where
    go : Dec (0x7ff0_0000_0000_0000 ≤ b % 2 ^ 63) → ltb (b % 2 ^ 63) 0x7ff0_0000_0000_0000 ≡ ltb (b % 2 ^ 63 / 2 ^ 52) 2047
    go (yes g) = le-ltb (b % 2 ^ 63) 0x7ff0_0000_0000_0000 g ∙ sym (le-ltb (b % 2 ^ 63 / 2 ^ 52) 2047 (omega arith))
    go (no g) =
        let g' = lt_of_not-le g in
        lt-ltb (b % 2 ^ 63) 0x7ff0_0000_0000_0000 g' ∙ sym (lt-ltb (b % 2 ^ 63 / 2 ^ 52) 2047 (omega arith))

pub finite-value-not-nan : (x : Float) → finite x ≡ true → T (not (is_nan x))
unfolding is_nan
finite-value-not-nan nan e = absurd (false≢true e)
finite-value-not-nan (inf s) e = tt
finite-value-not-nan (fin s m e) p = tt

pub finite-not-nan : (b : ℕ) → finite (of_bits binary64 b) ≡ true → T (not (nan_bits binary64 b))
finite-not-nan b e = subst (λ (t : Bool). T (not t)) (sym (nan_bits_is binary64 b)) (finite-value-not-nan (of_bits binary64 b) e)
