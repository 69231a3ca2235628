-- The comparisons of two numbers are those of their exact values. x < y is plus_part x - minus_part x < plus_part y - minus_part y, with no difference. Assumes nothing.
use mathlib.Core.Path.{◌≡◌, refl, sym, ap, ◌∙◌}
use mathlib.Core.Logic.{◌⊎◌, inl, inr}
use mathlib.Core.Bool.{Bool, true, false, ◌&&◌, ◌||◌, beq, cond}
use Prim.Native.Nat.{ℕ, ◌+◌, ◌*◌, ◌^◌, ◌≤◌, ◌<◌}
use native.Mathlib.Nat.{mul-pos, add-mul, zero-mul, add-zero, zero-add, eq_of_mul-eq-mul_right, le_of_lt, le_of_eq, eq-or-lt_of_le}
use native.Mathlib.Omega.{arith}
use lib.Dec.{T, ltb, leb, eqb, ltb→lt, lt→ltb, leb→le, le→leb, eqb→eq}
use lib.Arith.{le→nltb}
use lib.Pow.{pow_pos}
use lib.Ieee.{Float, up, down, below, level, lt, le, eq}
use lib.Ieee.Bits.{is_false}
use lib.Ieee.Fits.{down_pos, eq→eqb, and_i, and_l, and_r}
use Rattle.float.specs.Exact.{shift, count, negative}
use Rattle.rounding.specs.Number.{Number, plus_part, minus_part}
use Rattle.rounding.proofs.Counts.{same-lt, of-finite, left-count, right-count}

same : {p q : Bool} → (T p → T q) → (T q → T p) → p ≡ q
same {p = true} {q = true} h k = refl
same {p = true} {q = false} h k = absurd (h tt)
same {p = false} {q = true} h k = absurd (k tt)
same {p = false} {q = false} h k = refl

-- ---- ±a / L and ±b / L as fractions A / C and B / C
eqb_same : (A B C a b L : ℕ) → 0 < C → 0 < L → A * L ≡ a * C → B * L ≡ b * C → eqb A B ≡ eqb a b
eqb_same A B C a b L P Q p q =
    same (λ t. eq→eqb (eq_of_mul-eq-mul_right C P a b (sym p ∙ ap (λ (x : ℕ). x * L) (eqb→eq A B t) ∙ q)))
    (λ t. eq→eqb (eq_of_mul-eq-mul_right L Q A B (p ∙ ap (λ (x : ℕ). x * C) (eqb→eq a b t) ∙ sym q)))

module _ (A B C a b L : ℕ) (P : 0 < C) (Q : 0 < L) (p : A * L ≡ a * C) (q : B * L ≡ b * C) where
  none : 0 * L ≡ 0 * C
  none = zero-mul L ∙ sym (zero-mul C)

  below-same : (s t : Bool) → below s A t B ≡ below s a t b
  below-same false false = same-lt A B C a b L P Q p q
  below-same false true = refl
  below-same true false = same-lt 0 (A + B) C 0 (a + b) L P Q none (add-mul A B L ∙ ap (λ (x : ℕ). x + B * L) p ∙ ap (λ (x : ℕ). a * C + x) q ∙ sym (add-mul a b C))
  below-same true true = same-lt B A C b a L P Q q p

  level-same : (s t : Bool) → level s A t B ≡ level s a t b
  level-same s t =
      ap (λ (c : Bool). c && (beq s t || eqb A 0)) (eqb_same A B C a b L P Q p q)
      ∙ ap (λ (c : Bool). eqb a b && (beq s t || c)) (eqb_same A 0 C a 0 L P Q p none)

-- ---- the same comparison with no sign
lt-unsigned : (s t : Bool) (a b : ℕ) → below s a t b ≡ ltb (cond s 0 a + cond t b 0) (cond t 0 b + cond s a 0)
lt-unsigned false false a b = rw (add-zero a, add-zero b)
lt-unsigned false true a b = sym (is_false (ltb (a + b) (0 + 0)) (le→nltb (a + b) (0 + 0) (omega arith)))
lt-unsigned true false a b = same (λ h. let k = ltb→lt 0 (a + b) h in lt→ltb (0 + 0) (b + a) (omega arith)) (λ h. let k = ltb→lt (0 + 0) (b + a) h in lt→ltb 0 (a + b) (omega arith))
lt-unsigned true true a b = rw (zero-add a, zero-add b)

is : (m n : ℕ) → m ≡ n → T (eqb m n)
is m n e = eq→eqb e

both : (a b c d : ℕ) → (a ≡ b → a ≡ 0 → c ≡ d) → (c ≡ d → a ≡ b) → (c ≡ d → a ≡ 0) → (eqb a b && eqb a 0) ≡ eqb c d
both a b c d f g h =
    same (λ t. is c d (f (eqb→eq a b (and_l (eqb a b) (eqb a 0) t)) (eqb→eq a 0 (and_r (eqb a b) (eqb a 0) t))))
    (λ t. and_i (eqb a b) (eqb a 0) (is a b (g (eqb→eq c d t))) (is a 0 (h (eqb→eq c d t))))

one : (a b c d : ℕ) → (a ≡ b → c ≡ d) → (c ≡ d → a ≡ b) → (eqb a b && true) ≡ eqb c d
one a b c d f g = same (λ t. is c d (f (eqb→eq a b (and_l (eqb a b) true t)))) (λ t. and_i (eqb a b) true (is a b (g (eqb→eq c d t))) tt)

eq-unsigned : (s t : Bool) (a b : ℕ) → level s a t b ≡ eqb (cond s 0 a + cond t b 0) (cond t 0 b + cond s a 0)
eq-unsigned false false a b = one a b (a + 0) (b + 0) (λ h. omega arith) (λ h. omega arith)
eq-unsigned true true a b = one a b (0 + b) (0 + a) (λ h. omega arith) (λ h. omega arith)
eq-unsigned false true a b = both a b (a + b) (0 + 0) (λ h k. omega arith) (λ h. omega arith) (λ h. omega arith)
eq-unsigned true false a b = both a b (0 + 0) (b + a) (λ h k. omega arith) (λ h. omega arith) (λ h. omega arith)

-- ---- of two numbers
pub lt-is : {x y : Float} → Number x → Number y → lt x y ≡ ltb (plus_part x + minus_part y) (plus_part y + minus_part x)
unfolding lt count negative plus_part minus_part
lt-is =
    of-finite (λ x y. lt x y ≡ ltb (plus_part x + minus_part y) (plus_part y + minus_part x))
    (λ s m e t n d u v.
    below-same (m * up e * down d) (n * up d * down e) (down e * down d) (m * 2 ^ shift e) (n * 2 ^ shift d) (2 ^ 1074) (mul-pos (down_pos e) (down_pos d)) (pow_pos 1074) (left-count s m e d u) (right-count t n d e v) s t
    ∙ lt-unsigned s t (m * 2 ^ shift e) (n * 2 ^ shift d))

pub eq_is : {x y : Float} → Number x → Number y → eq x y ≡ eqb (plus_part x + minus_part y) (plus_part y + minus_part x)
unfolding eq count negative plus_part minus_part
eq_is =
    of-finite (λ x y. eq x y ≡ eqb (plus_part x + minus_part y) (plus_part y + minus_part x))
    (λ s m e t n d u v.
    level-same (m * up e * down d) (n * up d * down e) (down e * down d) (m * 2 ^ shift e) (n * 2 ^ shift d) (2 ^ 1074) (mul-pos (down_pos e) (down_pos d)) (pow_pos 1074) (left-count s m e d u) (right-count t n d e v) s t
    ∙ eq-unsigned s t (m * 2 ^ shift e) (n * 2 ^ shift d))

pub le_is : {x y : Float} → Number x → Number y → le x y ≡ leb (plus_part x + minus_part y) (plus_part y + minus_part x)
unfolding le
le_is {x} {y} X Y = ap (λ (c : Bool). c || eq x y) (lt-is X Y) ∙ ap (λ (c : Bool). ltb (plus_part x + minus_part y) (plus_part y + minus_part x) || c) (eq_is X Y) ∙ join (plus_part x + minus_part y) (plus_part y + minus_part x)
  where
    either : (p q : Bool) {a b : ℕ} → (T p → a ≤ b) → (T q → a ≤ b) → T (p || q) → a ≤ b
    either true q h k t = h tt
    either false true h k t = k tt
    either false false h k t = absurd t

    from-eq : (p q : Bool) → T q → T (p || q)
    from-eq true q t = tt
    from-eq false q t = t

    from-lt : (p q : Bool) → T p → T (p || q)
    from-lt true q t = tt
    from-lt false q t = absurd t

    join : (a b : ℕ) → (ltb a b || eqb a b) ≡ leb a b
    join a b = same (λ h. le→leb a b (either (ltb a b) (eqb a b) (λ t. le_of_lt (ltb→lt a b t)) (λ t. le_of_eq (eqb→eq a b t)) h)) (λ h. split (eq-or-lt_of_le (leb→le a b h)))
      where
        split : (a ≡ b) ⊎ (a < b) → T (ltb a b || eqb a b)
        split (inl e) = from-eq (ltb a b) (eqb a b) (eq→eqb e)
        split (inr l) = from-lt (ltb a b) (eqb a b) (lt→ltb a b l)

-- ---- of two numbers with no minus sign, by their counts
pub lt-plain : {x y : Float} → Number x → Number y → negative x ≡ false → negative y ≡ false → lt x y ≡ ltb (count x) (count y)
unfolding plus_part minus_part
lt-plain {x} {y} X Y p q = lt-is X Y ∙ rw (p, q, add-zero (count x), add-zero (count y)) refl

pub le-plain : {x y : Float} → Number x → Number y → negative x ≡ false → negative y ≡ false → le x y ≡ leb (count x) (count y)
unfolding plus_part minus_part
le-plain {x} {y} X Y p q = le_is X Y ∙ rw (p, q, add-zero (count x), add-zero (count y)) refl
