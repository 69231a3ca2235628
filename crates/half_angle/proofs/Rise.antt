-- How far a sum of terms rises where its argument moves on, up to an argument of 2. Assumes nothing.
use mathlib.Core.Path.{◌≡◌, sym, ap, ◌∙◌}
use mathlib.Core.Bool.{Bool, true, ◌&&◌}
use mathlib.Core.List.{List, [], ◌∷◌}
use Prim.Native.Nat.{ℕ, zero, suc, ◌+◌, ◌-◌, ◌*◌, ◌/◌, ◌^◌, ◌≤◌}
use native.Mathlib.Nat.{le_refl, le_trans, le_of_eq, mul-le-mul_left, mul-le-mul_right, add-le-add, pow-zero, pow-suc, pow-le-pow_left}
use native.Mathlib.Omega.{arith}
use lib.Dec.{T, leb, leb→le}
use lib.Pow.{pow-add}
use lib.Ieee.Fits.{and_l, and_r}
use Rattle.std.proofs.lemmas.Nat.{mul-pow}
use Rattle.trigonometry.specs.Taylor.{factorial}
use Rattle.trigonometry.proofs.Terms.{total}

pub total-mono : {n m : ℕ} (d : ℕ) (ks : List ℕ) → n ≤ m → total n d ks ≤ total m d ks
unfolding total
total-mono d [] h = le_refl 0
total-mono d (k ∷ ks) h = add-le-add (mul-le-mul_right (d ^ (31 - k) * (factorial 31 / factorial k)) (pow-le-pow_left h k)) (total-mono d ks h)

-- (n + e) ^ (k + 1) ≤ n ^ (k + 1) + (k + 1) * e * (n + e) ^ k
power-step : (n e k : ℕ) → (n + e) ^ suc k ≤ n ^ suc k + suc k * (e * (n + e) ^ k)
power-step n e zero = rw (pow-suc (n + e) 0, pow-suc n 0, pow-zero (n + e), pow-zero n) (omega arith)
power-step n e (suc k) =
    rw (pow-suc (n + e) (suc k), pow-suc n (suc k))
    (go ((n + e) ^ suc k) (n ^ suc k) ((n + e) ^ k) n e k (pow-suc (n + e) k) (power-step n e k))
  where
    less : (C n e A : ℕ) → A ≡ C * (n + e) → C * n ≤ A
    less C n e A p = rw p (omega arith)

    go : (A B C n e k : ℕ) → A ≡ C * (n + e) → A ≤ B + suc k * (e * C) → A * (n + e) ≤ B * n + suc (suc k) * (e * A)
    go A B C n e k p h = omega (arith, mul-le-mul_right n h, mul-le-mul_left (suc k * e) (less C n e A p))

-- what bounds a sum's slope up to 2, times 31!
abbrev pub slope : List ℕ → ℕ
slope [] = 0
slope (zero ∷ ks) = slope ks
slope (suc j ∷ ks) = suc j * 2 ^ j * (factorial 31 / factorial (suc j)) + slope ks

abbrev pub up_to_31 : List ℕ → Bool
up_to_31 [] = true
up_to_31 (k ∷ ks) = leb k 31 && up_to_31 ks

module _ (n e d : ℕ) (h : n + e ≤ 2 * d) where
  term-step : (j F : ℕ) → suc j ≤ 31
      → (n + e) ^ suc j * (d ^ (31 - suc j) * F) ≤ n ^ suc j * (d ^ (31 - suc j) * F) + e * (d ^ 30 * (suc j * 2 ^ j * F))
  term-step j F k =
      go ((n + e) ^ suc j) (n ^ suc j) ((n + e) ^ j) (2 ^ j) (d ^ j) (d ^ (31 - suc j)) (d ^ 30) (suc j) e F (power-step n e j)
      (le_trans (pow-le-pow_left h j) (le_of_eq (mul-pow 2 d j))) (sym (pow-add d j (31 - suc j)) ∙ ap (λ (x : ℕ). d ^ x) (thirty j k))
    where
      thirty : (j : ℕ) → suc j ≤ 31 → j + (31 - suc j) ≡ 30
      thirty j h = omega arith

      go : (A B P T X Y Z s e F : ℕ) → A ≤ B + s * (e * P) → P ≤ T * X → X * Y ≡ Z → A * (Y * F) ≤ B * (Y * F) + e * (Z * (s * T * F))
      go A B P T X Y Z s e F a m z = rw (← z) (omega (arith, mul-le-mul_right (Y * F) a, mul-le-mul_right (s * e * (Y * F)) m))

  pub total-step : (ks : List ℕ) → T (up_to_31 ks) → total (n + e) d ks ≤ total n d ks + e * (d ^ 30 * slope ks)
  unfolding total
  total-step [] t = omega arith
  total-step (zero ∷ ks) t =
      rw (pow-zero (n + e), pow-zero n)
      (go (1 * (d ^ 31 * (factorial 31 / factorial 0))) (total (n + e) d ks) (total n d ks) (e * (d ^ 30 * slope ks))
      (total-step ks (and_r (leb 0 31) (up_to_31 ks) t)))
    where
      go : (X A B C : ℕ) → A ≤ B + C → X + A ≤ X + B + C
      go X A B C h = omega arith
  total-step (suc j ∷ ks) t =
      go _ _ (total (n + e) d ks) (total n d ks) e (d ^ 30) (suc j * 2 ^ j * (factorial 31 / factorial (suc j))) (slope ks)
      (term-step j (factorial 31 / factorial (suc j)) (leb→le (suc j) 31 (and_l (leb (suc j) 31) (up_to_31 ks) t)))
      (total-step ks (and_r (leb (suc j) 31) (up_to_31 ks) t))
    where
      go : (A B C D e Z x y : ℕ) → A ≤ B + e * (Z * x) → C ≤ D + e * (Z * y) → A + C ≤ B + D + e * (Z * (x + y))
      go A B C D e Z x y h k = omega arith
