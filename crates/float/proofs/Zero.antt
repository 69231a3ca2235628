-- What the comparisons of a float with zero say of it. `zero64` is the `0.0` of the source. Assumes nothing.
use mathlib.Core.Path.{◌≡◌, sym, ap, ◌∙◌, subst}
use mathlib.Core.Bool.{Bool, true, false, not, ◌&&◌, ◌||◌, beq}
use Prim.Native.Nat.{ℕ, suc, ◌*◌, ◌<◌}
use native.Mathlib.Nat.{zero-mul, mul-pos, zero-lt-suc}
use native.Mathlib.Omega.{arith}
use lib.Dec.{T, eqb}
use lib.IntN.{ℤ, pos}
use lib.Ieee.{Float, fin, up, down, eq}
use lib.Ieee.Fits.{up_pos}

abbrev pub zero64 : Float
zero64 = fin false 0 (pos 0)

pub is : {b : Bool} → b ≡ true → T b
is h = subst T (sym h) tt

pub isnt : {b : Bool} → b ≡ false → T (not b)
isnt h = subst (λ (x : Bool). T (not x)) (sym h) tt

-- ---- the two numbers that a comparison with zero compares
abbrev pub mine : ℕ → ℤ → ℕ
mine m e = m * up e * down (pos 0)

abbrev pub zeros : ℤ → ℕ
zeros e = 0 * up (pos 0) * down e

pub no-zeros : (e : ℤ) → zeros e ≡ 0
no-zeros e = ap (λ (x : ℕ). x * down e) (zero-mul 1) ∙ zero-mul (down e)

pub some : (m : ℕ) (e : ℤ) → 0 < mine (suc m) e
some m e = mul-pos (mul-pos (zero-lt-suc m) (up_pos e)) (zero-lt-suc 0)

pub clash : (a b : ℕ) → b ≡ 0 → 0 < a → a ≡ b → ⊥
clash a b e h k = omega arith

pub zero-level : (e : ℤ) → mine 0 e ≡ 0
zero-level e = ap (λ (x : ℕ). x * 1) (zero-mul (up e))

-- a zero of either sign equals zero
pub zero-equal : (s : Bool) (e : ℤ) → eq (fin s 0 e) zero64 ≡ false → true ≡ false
unfolding eq
zero-equal s e k =
    either s
    (subst (λ (a : ℕ). (eqb a 0 && (beq s false || eqb a 0)) ≡ false) (zero-level e)
    (subst (λ (b : ℕ). (eqb (mine 0 e) b && (beq s false || eqb (mine 0 e) 0)) ≡ false) (no-zeros e) k))
  where
    either : (s : Bool) → (true && (beq s false || true)) ≡ false → true ≡ false
    either true h = h
    either false h = h
