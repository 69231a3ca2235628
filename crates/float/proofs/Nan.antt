-- The NaN's patterns: which they are, and what is read and written for them. Assumes nothing.
use Prim.Native.Nat.{ℕ, ◌%◌, ◌<◌, ◌≤◌}
use mathlib.Core.Path.{◌≡◌, refl, sym, subst, ◌∙◌}
use mathlib.Core.Bool.{Bool, true, false, not}
use lib.Dec.{T}
use lib.Ieee.{Float, nan, inf, fin, binary64, of_bits, to_bits, is_nan, nan_bits, ne, div}
use lib.Ieee.Compare.{differs_from_itself, nan_differs}
use lib.Ieee.Bits.{nan_bits_is, nan_bits_above}
use borrow.Author.Tests.{lt-ltb, le-ltb}

pub is-nan : (x : Float) → is_nan x ≡ true → x ≡ nan
unfolding is_nan
is-nan nan e = refl
is-nan (inf s) e = absurd (subst (λ (b : Bool). T (not b)) e tt)
is-nan (fin s m e) p = absurd (subst (λ (b : Bool). T (not b)) p tt)

pub nan_pattern : (b : ℕ) → 0x7ff0_0000_0000_0000 < b % 0x8000_0000_0000_0000 → nan ≡ of_bits binary64 b
nan_pattern b h = sym (is-nan (of_bits binary64 b) (sym (nan_bits_is binary64 b) ∙ nan_bits_above binary64 b ∙ lt-ltb _ _ h))

pub not-nan-pattern : (b : ℕ) → b % 0x8000_0000_0000_0000 ≤ 0x7ff0_0000_0000_0000 → T (not (nan_bits binary64 b))
not-nan-pattern b h = subst (λ (t : Bool). T (not t)) (sym (nan_bits_above binary64 b ∙ le-ltb _ _ h)) tt

pub nan-made : div binary64 (of_bits binary64 0) (of_bits binary64 0) ≡ nan
unfolding div of_bits
nan-made = refl

pub nan-bits : (x : Float) → ne x x ≡ true → 0x7ff8_0000_0000_0000 ≡ to_bits binary64 x
unfolding to_bits
nan-bits x e = rw (differs_from_itself x (subst T (sym e) tt))

pub not-nan : (x : Float) → ne x x ≡ false → T (not (is_nan x))
unfolding is_nan
not-nan nan e = subst T (sym nan_differs ∙ e) tt
not-nan (inf s) e = tt
not-nan (fin s m k) e = tt
