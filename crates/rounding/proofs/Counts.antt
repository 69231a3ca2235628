-- A number by its count and its sign: its parts, its exact value, and each operation as one rounding of counts. Assumes nothing.
use mathlib.Core.Path.{◌≡◌, refl, sym, ap, ◌∙◌, subst}
use mathlib.Core.Bool.{Bool, true, false, not, ◌&&◌, beq, cond}
use Prim.Native.Nat.{ℕ, zero, suc, ◌+◌, ◌-◌, ◌*◌, ◌^◌, ◌≤◌, ◌<◌}
use native.Mathlib.Nat.{le_trans, le_of_eq, lt_irrefl, zero-mul, mul_comm, mul_assoc, mul_right_comm, mul-mul-mul_comm, add-mul, mul-sub, mul-pos, mul-le-mul_right, le_of_mul-le-mul_right, lt_of_mul-lt-mul_right, mul-lt-mul_of_pos_right, eq_of_mul-eq-mul_right, zero-lt-suc, mul-zero}
use native.Mathlib.Omega.{arith}
use lib.Dec.{T, ltb, eqb, ltb→lt, nltb→le, lt→ltb, eqb-suc-zero}
use lib.Arith.{le→nltb}
use lib.Pow.{pow_pos}
use lib.IntN.{ℤ, pos, nat_abs}
use lib.Ieee.{Float, nan, inf, fin, binary64, of_bits, unlike, up, down, round, neg, sum, add, mul, div, fits}
use lib.Ieee.Bits.{is_true, is_false}
use lib.Ieee.Fits.{up_pos, down_pos, neg-fits}
use lib.Ieee.Scale.{finite, round_same}
use Rattle.float.specs.Exact.{shift, count, negative, signed, exact, abs}
use Rattle.float.proofs.Counts.{fraction}
use Rattle.rounding.specs.Number.{Number, plus_part, minus_part}
use Rattle.rounding.proofs.Integers.{above, below, abs_neg}

-- ---- the two parts
pub parts-sum : (x : Float) → count x ≡ plus_part x + minus_part x
unfolding plus_part minus_part
parts-sum x = go (negative x)
  where
    go : (s : Bool) → count x ≡ cond s 0 (count x) + cond s (count x) 0
    go true = omega arith
    go false = omega arith

pub plus-parts : (x : Float) → negative x ≡ false → (plus_part x ≡ count x) × (minus_part x ≡ 0)
unfolding plus_part minus_part
plus-parts x e = (ap (λ (s : Bool). cond s 0 (count x)) e, ap (λ (s : Bool). cond s (count x) 0) e)

pub minus-parts : (x : Float) → negative x ≡ true → (minus_part x ≡ count x) × (plus_part x ≡ 0)
unfolding plus_part minus_part
minus-parts x e = (ap (λ (s : Bool). cond s (count x) 0) e, ap (λ (s : Bool). cond s 0 (count x)) e)

pub one-part : (x : Float) → plus_part x * minus_part x ≡ 0
unfolding plus_part minus_part
one-part x = go (negative x)
  where
    go : (s : Bool) → cond s 0 (count x) * cond s (count x) 0 ≡ 0
    go true = zero-mul (count x)
    go false = mul-zero (count x)

-- ---- the exact value
pub exact_above : (x : Float) → above (exact x) ≡ plus_part x
unfolding exact plus_part
exact_above x = go (negative x) (count x)
  where
    go : (s : Bool) (n : ℕ) → above (signed s n) ≡ cond s 0 n
    go false n = refl
    go true zero = refl
    go true (suc n) = refl

pub exact_below : (x : Float) → below (exact x) ≡ minus_part x
unfolding exact minus_part
exact_below x = go (negative x) (count x)
  where
    go : (s : Bool) (n : ℕ) → below (signed s n) ≡ cond s n 0
    go false n = refl
    go true zero = refl
    go true (suc n) = refl

pub exact-size : (x : Float) → nat_abs (exact x) ≡ count x
unfolding exact
exact-size x = go (negative x) (count x)
  where
    go : (s : Bool) (n : ℕ) → nat_abs (signed s n) ≡ n
    go false n = refl
    go true n = abs_neg (pos n)

-- ---- negation
pub neg-number : {x : Float} → Number x → Number (neg x)
unfolding neg
neg-number {x} X = record { is_binary64 = neg-fits binary64 x X.is_binary64; is_finite = go x X.is_finite }
  where
    go : (x : Float) → T (finite x) → T (finite (neg x))
    go nan t = t
    go (inf s) t = t
    go (fin s m e) t = tt

pub neg-count : (x : Float) → count (neg x) ≡ count x
unfolding neg count
neg-count nan = refl
neg-count (inf s) = refl
neg-count (fin s m e) = refl

pub neg-sign : {x : Float} → Number x → negative (neg x) ≡ not (negative x)
unfolding neg negative
neg-sign {x} X = go x X.is_finite
  where
    go : (x : Float) → T (finite x) → negative (neg x) ≡ not (negative x)
    go nan t = absurd t
    go (inf s) t = refl
    go (fin s m e) t = refl

pub neg-parts : {x : Float} → Number x → (plus_part (neg x) ≡ minus_part x) × (minus_part (neg x) ≡ plus_part x)
unfolding plus_part minus_part
neg-parts {x} X = (
  ap (λ (n : ℕ). cond (negative (neg x)) 0 n) (neg-count x) ∙ ap (λ (s : Bool). cond s 0 (count x)) (neg-sign X) ∙ turn-plus (negative x),
  ap (λ (n : ℕ). cond (negative (neg x)) n 0) (neg-count x) ∙ ap (λ (s : Bool). cond s (count x) 0) (neg-sign X) ∙ turn-minus (negative x),
)
  where
    turn-plus : (s : Bool) → cond (not s) 0 (count x) ≡ cond s (count x) 0
    turn-plus true = refl
    turn-plus false = refl

    turn-minus : (s : Bool) → cond (not s) (count x) 0 ≡ cond s 0 (count x)
    turn-minus true = refl
    turn-minus false = refl

-- ---- +0
abbrev pub zero64 : Float
zero64 = of_bits binary64 0

pub zero-number : Number zero64
unfolding of_bits fits
zero-number = record { is_binary64 = tt; is_finite = tt }

pub zero-sign : negative zero64 ≡ false
unfolding of_bits negative
zero-sign = refl

pub zero-count : count zero64 ≡ 0
unfolding of_bits count
zero-count = refl

-- ---- the magnitude
pub magnitude-number : {x : Float} → Number x → Number (abs x)
unfolding abs fits
magnitude-number {x} X = go x X
  where
    go : (x : Float) → Number x → Number (abs x)
    go nan X = X
    go (inf s) X = absurd X.is_finite
    go (fin s m e) X = record { is_binary64 = X.is_binary64; is_finite = tt }

pub magnitude-sign : (x : Float) → negative (abs x) ≡ false
unfolding abs negative
magnitude-sign nan = refl
magnitude-sign (inf s) = refl
magnitude-sign (fin s m e) = refl

pub magnitude-count : (x : Float) → count (abs x) ≡ count x
unfolding abs count
magnitude-count nan = refl
magnitude-count (inf s) = refl
magnitude-count (fin s m e) = refl

-- ---- fractions with one denominator: A / C is a / L, and B / C is b / L
le-fraction : (A B C a b L : ℕ) → 0 < C → A * L ≡ a * C → B * L ≡ b * C → A ≤ B → a ≤ b
le-fraction A B C a b L P p q h = le_of_mul-le-mul_right (le_trans (le_of_eq (sym p)) (le_trans (mul-le-mul_right L h) (le_of_eq q))) P

lt-fraction : (A B C a b L : ℕ) → 0 < L → A * L ≡ a * C → B * L ≡ b * C → A < B → a < b
lt-fraction A B C a b L Q p q h = lt_of_mul-lt-mul_right C (subst (λ (x : ℕ). a * C < x) q (subst (λ (x : ℕ). x < B * L) p (mul-lt-mul_of_pos_right h Q)))

less-fraction : (A B C a b L : ℕ) → A * L ≡ a * C → B * L ≡ b * C → (A - B) * L ≡ (a - b) * C
less-fraction A B C a b L p q = back-mul A B L ∙ ap (λ (x : ℕ). x - B * L) p ∙ ap (λ (x : ℕ). a * C - x) q ∙ sym (back-mul a b C)
  where
    back-mul : (x y z : ℕ) → (x - y) * z ≡ x * z - y * z
    back-mul x y z = mul_comm (x - y) z ∙ mul-sub z x y ∙ ap (λ (v : ℕ). v - z * y) (mul_comm z x) ∙ ap (λ (v : ℕ). x * z - v) (mul_comm z y)

pub same-lt : (A B C a b L : ℕ) → 0 < C → 0 < L → A * L ≡ a * C → B * L ≡ b * C → ltb A B ≡ ltb a b
same-lt A B C a b L P Q p q = go (ltb A B) (ltb→lt A B) (nltb→le A B)
  where
    go : (c : Bool) → (T c → A < B) → (T (not c) → B ≤ A) → c ≡ ltb a b
    go true h k = sym (is_true (ltb a b) (lt→ltb a b (lt-fraction A B C a b L Q p q (h tt))))
    go false h k = sym (is_false (ltb a b) (le→nltb a b (le-fraction B A C b a L P q p (k tt))))

module _ (A B C a b L : ℕ) (P : 0 < C) (Q : 0 < L) (p : A * L ≡ a * C) (q : B * L ≡ b * C) where
  sum_same : (s t : Bool) → sum binary64 s A t B C ≡ sum binary64 s a t b L
  unfolding sum
  sum_same s t = go (beq s t)
    where
      both : (A + B) * L ≡ (a + b) * C
      both = add-mul A B L ∙ ap (λ (x : ℕ). x + B * L) p ∙ ap (λ (x : ℕ). a * C + x) q ∙ sym (add-mul a b C)

      signs : (s && ltb B A) ≡ (s && ltb b a)
      signs = ap (λ (c : Bool). s && c) (same-lt B A C b a L P Q q p)

      apart : cond (ltb A B) (round binary64 t (B - A) C) (round binary64 (s && ltb B A) (A - B) C)
          ≡ cond (ltb a b) (round binary64 t (b - a) L) (round binary64 (s && ltb b a) (a - b) L)
      apart =
          ap (λ (c : Bool). cond c (round binary64 t (B - A) C) (round binary64 (s && ltb B A) (A - B) C)) (same-lt A B C a b L P Q p q)
          ∙ ap (λ (x : Float). cond (ltb a b) x (round binary64 (s && ltb B A) (A - B) C)) (round_same binary64 t (B - A) C (b - a) L P Q (less-fraction B A C b a L q p))
          ∙ ap (λ (x : Float). cond (ltb a b) (round binary64 t (b - a) L) x)
          (ap (λ (c : Bool). round binary64 c (A - B) C) signs ∙ round_same binary64 (s && ltb b a) (A - B) C (a - b) L P Q (less-fraction A B C a b L p q))

      go : (c : Bool) → cond c (round binary64 s (A + B) C) (cond (ltb A B) (round binary64 t (B - A) C) (round binary64 (s && ltb B A) (A - B) C))
          ≡ cond c (round binary64 s (a + b) L) (cond (ltb a b) (round binary64 t (b - a) L) (round binary64 (s && ltb b a) (a - b) L))
      go true = round_same binary64 s (A + B) C (a + b) L P Q both
      go false = apart

-- ---- each operation is one rounding of its operands' counts
-- what holds of finite values holds of numbers
pub of-finite : (P : Float → Float → Type 0)
    → ((s : Bool) (m : ℕ) (e : ℤ) (t : Bool) (n : ℕ) (d : ℤ) → T (fits binary64 (fin s m e)) → T (fits binary64 (fin t n d)) → P (fin s m e) (fin t n d))
    → {x y : Float} → Number x → Number y → P x y
of-finite P h {x} {y} X Y = go x y X Y
  where
    go : (x y : Float) → Number x → Number y → P x y
    go nan y X Y = absurd X.is_finite
    go (inf s) y X Y = absurd X.is_finite
    go (fin s m e) nan X Y = absurd Y.is_finite
    go (fin s m e) (inf t) X Y = absurd Y.is_finite
    go (fin s m e) (fin t n d) X Y = h s m e t n d X.is_binary64 Y.is_binary64

across : (x l a g h : ℕ) → x * l ≡ a * g → x * h * l ≡ a * (g * h)
across x l a g h e = mul_right_comm x h l ∙ ap (λ (v : ℕ). v * h) e ∙ mul_assoc a g h

-- two numbers as fractions with one denominator, and in counts
pub left-count : (s : Bool) (m : ℕ) (e d : ℤ) → T (fits binary64 (fin s m e)) → m * up e * down d * 2 ^ 1074 ≡ m * 2 ^ shift e * (down e * down d)
left-count s m e d t = across (m * up e) (2 ^ 1074) (m * 2 ^ shift e) (down e) (down d) (fraction s m e t)

pub right-count : (s : Bool) (m : ℕ) (e d : ℤ) → T (fits binary64 (fin s m e)) → m * up e * down d * 2 ^ 1074 ≡ m * 2 ^ shift e * (down d * down e)
right-count s m e d t = left-count s m e d t ∙ ap (λ (v : ℕ). m * 2 ^ shift e * v) (mul_comm (down e) (down d))

pub add_is : {x y : Float} → Number x → Number y → add binary64 x y ≡ sum binary64 (negative x) (count x) (negative y) (count y) (2 ^ 1074)
unfolding add count negative
add_is =
    of-finite (λ x y. add binary64 x y ≡ sum binary64 (negative x) (count x) (negative y) (count y) (2 ^ 1074))
    (λ s m e t n d u v.
    sum_same (m * up e * down d) (n * up d * down e) (down e * down d) (m * 2 ^ shift e) (n * 2 ^ shift d) (2 ^ 1074) (mul-pos (down_pos e) (down_pos d)) (pow_pos 1074)
    (left-count s m e d u) (right-count t n d e v)
    s t)

pub mul_is : {x y : Float} → Number x → Number y → mul binary64 x y ≡ round binary64 (unlike (negative x) (negative y)) (count x * count y) (2 ^ 2148)
unfolding mul count negative
mul_is =
    of-finite (λ x y. mul binary64 x y ≡ round binary64 (unlike (negative x) (negative y)) (count x * count y) (2 ^ 2148))
    (λ s m e t n d u v.
    round_same binary64 (unlike s t) (m * up e * (n * up d)) (down e * down d) (m * 2 ^ shift e * (n * 2 ^ shift d)) (2 ^ 2148) (mul-pos (down_pos e) (down_pos d)) (pow_pos 2148)
    (both (m * up e) (n * up d) (2 ^ 1074) (m * 2 ^ shift e) (n * 2 ^ shift d) (down e) (down d) (fraction s m e u) (fraction t n d v)))
  where
    both : (p q l a b g h : ℕ) → p * l ≡ a * g → q * l ≡ b * h → p * q * (l * l) ≡ a * b * (g * h)
    both p q l a b g h e f = mul-mul-mul_comm p q l l ∙ ap (λ (x : ℕ). x * (q * l)) e ∙ ap (λ (x : ℕ). a * g * x) f ∙ mul-mul-mul_comm a g b h

pub div_is : {x y : Float} → Number x → Number y → 0 < count y → div binary64 x y ≡ round binary64 (unlike (negative x) (negative y)) (count x) (count y)
unfolding div count negative
div_is = of-finite (λ x y. 0 < count y → div binary64 x y ≡ round binary64 (unlike (negative x) (negative y)) (count x) (count y)) go
  where
    ratio : (p q l a b g h : ℕ) → 0 < l → p * l ≡ a * g → q * l ≡ b * h → p * h * b ≡ a * (q * g)
    ratio p q l a b g h P e f =
        eq_of_mul-eq-mul_right l P (p * h * b) (a * (q * g))
        (omega (arith, ap (λ (x : ℕ). x * (h * b)) e, ap (λ (x : ℕ). x * (a * g)) f))

    go : (s : Bool) (m : ℕ) (e : ℤ) (t : Bool) (n : ℕ) (d : ℤ) → T (fits binary64 (fin s m e)) → T (fits binary64 (fin t n d))
        → 0 < n * 2 ^ shift d → div binary64 (fin s m e) (fin t n d) ≡ round binary64 (unlike s t) (m * 2 ^ shift e) (n * 2 ^ shift d)
    go s m e t zero d u v P = absurd (lt_irrefl 0 (subst (λ (z : ℕ). 0 < z) (zero-mul (2 ^ shift d)) P))
    go s m e t (suc n) d u v P =
        ap (λ (b : Bool). cond b (cond (eqb m 0) nan (inf (unlike s t))) (round binary64 (unlike s t) (m * up e * down d) (suc n * up d * down e))) (eqb-suc-zero n)
        ∙ round_same binary64 (unlike s t) (m * up e * down d) (suc n * up d * down e) (m * 2 ^ shift e) (suc n * 2 ^ shift d) (mul-pos (mul-pos (zero-lt-suc n) (up_pos d)) (down_pos e)) P
        (ratio (m * up e) (suc n * up d) (2 ^ 1074) (m * 2 ^ shift e) (suc n * 2 ^ shift d) (down e) (down d) (pow_pos 1074) (fraction s m e u) (fraction t (suc n) d v))
