-- Sums of products, each operation rounded: how far the result is from the exact one. Assumes nothing.
use Prim.Native.Nat.{ℕ, suc, ◌+◌, ◌*◌, ◌^◌, ◌≤◌, ◌<◌}
use mathlib.Core.Path.{◌≡◌, refl, sym, ap, ◌∙◌, subst}
use mathlib.Core.List.{[], ◌∷◌}
use native.Mathlib.Nat.{le_refl, le_trans, le_of_eq, mul-le-mul_right, le_of_mul-le-mul_right}
use native.Mathlib.Omega.{arith}
use lib.Dec.{T, leb, leb→le, lit≤}
use lib.IntN.{ℤ, pos, neg_ℤ, nat_abs, ◌+ℤ◌, ◌-ℤ◌, ◌*ℤ◌}
use lib.Ieee.{Float, binary64, neg, add, mul}
use Rattle.std.proofs.lemmas.Int.{unsigned_abs-mul}
use Rattle.float.specs.Exact.{exact, count}
use Rattle.rounding.specs.Number.{Number, one, limit}
use Rattle.rounding.specs.Error.{Within}
use Rattle.rounding.proofs.Laws.{abs-add, abs_neg, exact-size, one-pos, one-limit, neg-number, neg-exact, add-number, add-error, mul-number, mul-error-exact}
use Rattle.ring.proofs.Integers.{integers}
use Rattle.ring.proofs.Solver.{var, eval}
use Rattle.law.proofs.Written.{agree, written, solve_value}

-- 2 ^ -53 in counts of 2 ^ -2148. It stays shut, so that it is an unknown to `omega`, as `one` is.
unfoldable pub tiny : ℕ
tiny = 2 ^ 2095

pub tiny-one : one * one ≡ 2 ^ 53 * tiny
unfolding one tiny
tiny-one = refl

pub one-tiny : 2 ^ 100 * one ≤ tiny
unfolding one tiny
one-tiny = lit≤ tt

pub tiny-few : (c : ℕ) → c ≤ 2 ^ 53 → c * tiny ≤ one * one
tiny-few c h = le_trans (mul-le-mul_right tiny h) (le_of_eq (sym tiny-one))

-- ---- over integers
pub abs-mul : (x y : ℤ) → nat_abs (x *ℤ y) ≡ nat_abs x * nat_abs y
abs-mul = unsigned_abs-mul

-- the sizes of two differ by no more than the two
whole : (x y : ℤ) → (x -ℤ y) +ℤ y ≡ x
unfolding agree eval
whole x y = let m = written in solve_value integers (x ∷ y ∷ []) (m.add (m.sub (var 0) (var 1)) (var 1)) (var 0) tt

turned : (x y : ℤ) → neg_ℤ (x -ℤ y) ≡ y -ℤ x
unfolding agree eval
turned x y = let m = written in solve_value integers (x ∷ y ∷ []) (m.neg (m.sub (var 0) (var 1))) (m.sub (var 1) (var 0)) tt

no-larger : (x y : ℤ) → nat_abs x ≤ nat_abs y + nat_abs (x -ℤ y)
no-larger x y = let t = subst (λ (z : ℤ). nat_abs z ≤ nat_abs (x -ℤ y) + nat_abs y) (whole x y) (abs-add (x -ℤ y) y) in omega arith

pub sizes-apart : (x y : ℤ) → Within (nat_abs x) (nat_abs y) (nat_abs (x -ℤ y))
sizes-apart x y =
    record {
      over = no-larger x y;
      under = subst (λ (n : ℕ). nat_abs y ≤ nat_abs x + n) (ap nat_abs (sym (turned x y)) ∙ abs_neg (x -ℤ y)) (no-larger y x);
    }

-- ---- A rounded sum z of products, and the exact one w, in counts of 2 ^ -2148: b is what the products' magnitudes add up to, m how many operations lead to z,
-- and k how many of them one after the other. Each of these k is off by at most b / 2 ^ 53; a slack for each operation bounds what that leaves out, half a
-- count and the errors of errors.
unfoldable pub slack : ℕ
slack = 2 ^ 10 * tiny

pub record Near (w : ℤ) (b k m : ℕ) (z : Float) : Type 0 where
  pub number : Number z
  pub size : nat_abs w ≤ b
  pub error : 2 ^ 53 * nat_abs (exact z *ℤ pos one -ℤ w) ≤ k * b + m * slack

-- what this is said of: b at most 2 ^ 7, and few operations
record Bounded (b k m : ℕ) : Type 0 where
  size : b ≤ 2 ^ 7 * (one * one)
  depth : k ≤ 4
  operations : m ≤ 16

-- the error is at most a slack
rest : {b k m : ℕ} → Bounded b k m → k * b + m * slack ≤ 2 ^ 53 * slack
unfolding slack
rest {b} {k} {m} h =
    both (k * b) b (m * (2 ^ 10 * tiny)) tiny (mul-le-mul_right b h.depth) (subst (λ (n : ℕ). b ≤ 2 ^ 7 * n) tiny-one h.size) (mul-le-mul_right (2 ^ 10 * tiny) h.operations)
  where
    both : (kb b ms t : ℕ) → kb ≤ 4 * b → b ≤ 2 ^ 7 * (2 ^ 53 * t) → ms ≤ 16 * (2 ^ 10 * t) → kb + ms ≤ 2 ^ 53 * (2 ^ 10 * t)
    both kb b ms t h k l = omega arith

module _ {w : ℤ} {b k m : ℕ} {z : Float} (Z : Near w b k m z) where
  scaled-size : nat_abs (exact z *ℤ pos one) ≡ count z * one
  scaled-size = abs-mul (exact z) (pos one) ∙ ap (λ (n : ℕ). n * one) (exact-size z)

  magnitude : 2 ^ 53 * (count z * one) ≤ 2 ^ 53 * b + (k * b + m * slack)
  magnitude =
      let h = no-larger (exact z *ℤ pos one) w in
      most (count z * one) (nat_abs w) b _ _ (subst (λ (n : ℕ). n ≤ nat_abs w + nat_abs (exact z *ℤ pos one -ℤ w)) scaled-size h) Z.size Z.error
    where
      most : (c w b d e : ℕ) → c ≤ w + d → w ≤ b → 2 ^ 53 * d ≤ e → 2 ^ 53 * c ≤ 2 ^ 53 * b + e
      most c w b d e h k l = omega arith

-- so z, times one, and w differ in size by no more
pub sizes-near : {w : ℤ} {b k m : ℕ} {z : Float} → Near w b k m z → Within (2 ^ 53 * (count z * one)) (2 ^ 53 * nat_abs w) (k * b + m * slack)
sizes-near {w} {b} {k} {m} {z} Z =
    let h = rw (scaled-size Z) at (sizes-apart (exact z *ℤ pos one) w) in
    record { over = scaled _ _ _ _ h.over Z.error; under = scaled _ _ _ _ h.under Z.error }
  where
    scaled : (a b d e : ℕ) → a ≤ b + d → 2 ^ 53 * d ≤ e → 2 ^ 53 * a ≤ 2 ^ 53 * b + e
    scaled a b d e h k = omega arith

-- ---- a product
pub product : {x y : Float} → Number x → Number y → count x * count y ≤ 2 ^ 7 * (one * one) → Near (exact x *ℤ exact y) (count x * count y) 1 1 (mul binary64 x y)
unfolding slack
product {x} {y} X Y h =
    let Z = mul-number X Y (within (count x * count y) one limit h one-limit) in
    record {
      number = Z;
      size = le_of_eq (abs-mul (exact x) (exact y) ∙ rw (exact-size x, exact-size y) refl);
      error = le_trans (mul-error-exact X Y Z.is_finite) (last (count x * count y) one tiny slack one-tiny refl);
    }
  where
    within : (p o l : ℕ) → p ≤ 2 ^ 7 * (o * o) → 2 ^ 100 * o ≤ l → p ≤ l * o
    within p o l h k = omega (arith, mul-le-mul_right o k)

    last : (p o t s : ℕ) → 2 ^ 100 * o ≤ t → s ≡ 2 ^ 10 * t → p + 2 ^ 52 * o ≤ 1 * p + 1 * s
    last p o t s h e = omega arith

-- ---- a number with its sign turned
turn : (z o w : ℤ) → neg_ℤ z *ℤ o -ℤ neg_ℤ w ≡ neg_ℤ (z *ℤ o -ℤ w)
unfolding agree eval
turn z o w =
    let m = written in
    solve_value integers (z ∷ o ∷ w ∷ []) (m.sub (m.mul (m.neg (var 0)) (var 1)) (m.neg (var 2))) (m.neg (m.sub (m.mul (var 0) (var 1)) (var 2))) tt

pub negated : {w : ℤ} {b k m : ℕ} {z : Float} → Near w b k m z → Near (neg_ℤ w) b k m (neg z)
negated {w} {b} {k} {m} {z} Z =
    record {
      number = neg-number Z.number;
      size = subst (λ (n : ℕ). n ≤ b) (sym (abs_neg w)) Z.size;
      error = rw (neg-exact Z.number, turn (exact z) (pos one) w, abs_neg (exact z *ℤ pos one -ℤ w)) Z.error;
    }

-- ---- a sum: its own error, times one, and those of the two
parted : (s y z o w v : ℤ) → s *ℤ o -ℤ (w +ℤ v) ≡ (s -ℤ (y +ℤ z)) *ℤ o +ℤ ((y *ℤ o -ℤ w) +ℤ (z *ℤ o -ℤ v))
unfolding agree eval
parted s y z o w v =
    let m = written in
    solve_value integers (s ∷ y ∷ z ∷ o ∷ w ∷ v ∷ [])
    (m.sub (m.mul (var 0) (var 3)) (m.add (var 4) (var 5)))
    (m.add (m.mul (m.sub (var 0) (m.add (var 1) (var 2))) (var 3)) (m.add (m.sub (m.mul (var 1) (var 3)) (var 4)) (m.sub (m.mul (var 2) (var 3)) (var 5)))) tt

apart : (s y z o w v : ℤ) → nat_abs (s *ℤ o -ℤ (w +ℤ v)) ≤ nat_abs ((s -ℤ (y +ℤ z)) *ℤ o) + (nat_abs (y *ℤ o -ℤ w) + nat_abs (z *ℤ o -ℤ v))
apart s y z o w v =
    let h = abs-add ((s -ℤ (y +ℤ z)) *ℤ o) ((y *ℤ o -ℤ w) +ℤ (z *ℤ o -ℤ v)) in
    let k = abs-add (y *ℤ o -ℤ w) (z *ℤ o -ℤ v) in
    rw (parted s y z o w v) (omega arith)

sizes-sum : (p q b c d e s : ℕ) → 2 ^ 53 * p ≤ 2 ^ 53 * b + d → 2 ^ 53 * q ≤ 2 ^ 53 * c + e → d + e ≤ 2 ^ 53 * s → p + q ≤ b + c + s
sizes-sum p q b c d e s h k l = omega arith

errors-sum : (x u v w p q b c d e s : ℕ) → x ≤ u + (v + w) → 2 ^ 53 * u ≤ p + q → 2 ^ 53 * v ≤ d → 2 ^ 53 * w ≤ e → p + q ≤ b + c + s → 2 ^ 53 * x ≤ (d + e) + (b + c) + s
errors-sum x u v w p q b c d e s h i j k l = omega arith

errors-joined : (k m n b c s : ℕ) → k * (b + c) + (m + n) * s ≡ (k * b + m * s) + (k * c + n * s)
errors-joined k m n b c s = omega arith

one-more : (k m n b c s : ℕ) → ((k * b + m * s) + (k * c + n * s)) + (b + c) + s ≡ suc k * (b + c) + suc (m + n) * s
one-more k m n b c s = omega arith

far-below : (a c b o l s t : ℕ) → a * o + c * o ≤ b + s → b ≤ 2 ^ 7 * (o * o) → s ≡ 2 ^ 10 * t → 2 ^ 20 * t ≤ o * o → 0 < o → 2 ^ 100 * o ≤ l → a + c ≤ l
far-below a c b o l s t h k e f P g = le_trans (le_of_mul-le-mul_right (omega arith) P) (less o l g)
  where
    less : (o l : ℕ) → 2 ^ 100 * o ≤ l → 2 ^ 8 * o ≤ l
    less o l g = omega arith

added : {w v : ℤ} {b c k m n : ℕ} {y z : Float} → Near w b k m y → Near v c k n z → Bounded (b + c) k (m + n)
    → Near (w +ℤ v) (b + c) (suc k) (suc (m + n)) (add binary64 y z)
unfolding slack
added {w} {v} {b} {c} {k} {m} {n} {y} {z} Y Z h =
    let o = pos one in
    let d = k * b + m * slack in
    let e = k * c + n * slack in
    let r : d + e ≤ 2 ^ 53 * slack = le_trans (le_of_eq (sym (errors-joined k m n b c slack))) (rest h) in
    let l = sizes-sum (count y * one) (count z * one) b c d e slack (magnitude Y) (magnitude Z) r in
    let S = add-number Y.number Z.number (far-below (count y) (count z) (b + c) one limit slack tiny l h.size refl (tiny-few (2 ^ 20) (lit≤ tt)) one-pos one-limit) in
    let s = exact (add binary64 y z) in
    let own : 2 ^ 53 * nat_abs ((s -ℤ (exact y +ℤ exact z)) *ℤ o) ≤ count y * one + count z * one =
    rw (exact-size y, exact-size z) at (scaled s (exact y) (exact z) (add-error Y.number Z.number S.is_finite).relative) in
    record {
      number = S;
      size = le_trans (abs-add w v) (joined (nat_abs w) (nat_abs v) b c Y.size Z.size);
      error =
          le_trans
          (errors-sum _ _ _ _ (count y * one) (count z * one) b c d e slack (apart s (exact y) (exact z) o w v) own Y.error Z.error l)
          (le_of_eq (one-more k m n b c slack));
    }
  where
    joined : (a c b d : ℕ) → a ≤ b → c ≤ d → a + c ≤ b + d
    joined a c b d h k = omega arith

    times : (d a c o : ℕ) → 2 ^ 53 * d ≤ a + c → 2 ^ 53 * (d * o) ≤ a * o + c * o
    times d a c o h = omega (arith, mul-le-mul_right o h)

    scaled : (s x t : ℤ) → 2 ^ 53 * nat_abs (s -ℤ (x +ℤ t)) ≤ nat_abs (x +ℤ t) → 2 ^ 53 * nat_abs ((s -ℤ (x +ℤ t)) *ℤ pos one) ≤ nat_abs x * one + nat_abs t * one
    scaled s x t h = rw (abs-mul (s -ℤ (x +ℤ t)) (pos one)) (times (nat_abs (s -ℤ (x +ℤ t))) (nat_abs x) (nat_abs t) one (le_trans h (abs-add x t)))

-- ---- four products, added in turn or in two pairs, and the first three of them
pub looser : {w : ℤ} {b k l m n : ℕ} {z : Float} → k ≤ l → m ≤ n → Near w b k m z → Near w b l n z
looser {w} {b} {k} {l} {m} {n} {z} h i Z = record { number = Z.number; size = Z.size; error = le_trans Z.error (both (k * b) (l * b) (m * slack) (n * slack) (mul-le-mul_right b h) (mul-le-mul_right slack i)) }
  where
    both : (p q r s : ℕ) → p ≤ q → r ≤ s → p + r ≤ q + s
    both p q r s h i = omega arith

deeper : {w : ℤ} {b k l m : ℕ} {z : Float} → k ≤ l → Near w b k m z → Near w b l m z
deeper {m = m} h Z = looser h (le_refl m) Z

module _ {w₀ w₁ w₂ w₃ : ℤ} {b₀ b₁ b₂ b₃ : ℕ} {f₀ f₁ f₂ f₃ : Float} (T₀ : Near w₀ b₀ 1 1 f₀) (T₁ : Near w₁ b₁ 1 1 f₁) (T₂ : Near w₂ b₂ 1 1 f₂) (T₃ : Near w₃ b₃ 1 1 f₃)
    (h : b₀ + b₁ + b₂ + b₃ ≤ 2 ^ 7 * (one * one)) where
  infixl 60 ◌⊕◌
  abbrev ◌⊕◌ : Float → Float → Float
  x ⊕ y = add binary64 x y

  part : (b k m : ℕ) → b ≤ b₀ + b₁ + b₂ + b₃ → T (leb k 4) → T (leb m 16) → Bounded b k m
  part b k m l p q = record { size = le_trans l h; depth = leb→le k 4 p; operations = leb→le m 16 q }

  pub first-three : Near (w₀ +ℤ w₁ +ℤ w₂) (b₀ + b₁ + b₂) 3 5 (f₀ ⊕ f₁ ⊕ f₂)
  first-three =
      let two = added T₀ T₁ (part (b₀ + b₁) 1 2 (omega arith) tt tt) in
      added two (deeper (lit≤ tt) T₂) (part (b₀ + b₁ + b₂) 2 4 (omega arith) tt tt)

  pub in-turn : Near (w₀ +ℤ w₁ +ℤ w₂ +ℤ w₃) (b₀ + b₁ + b₂ + b₃) 4 7 (f₀ ⊕ f₁ ⊕ f₂ ⊕ f₃)
  in-turn = added first-three (deeper (lit≤ tt) T₃) (part (b₀ + b₁ + b₂ + b₃) 3 6 (le_refl _) tt tt)

  pub in-pairs : Near ((w₀ +ℤ w₁) +ℤ (w₂ +ℤ w₃)) ((b₀ + b₁) + (b₂ + b₃)) 4 7 ((f₀ ⊕ f₁) ⊕ (f₂ ⊕ f₃))
  in-pairs =
      let left = added T₀ T₁ (part (b₀ + b₁) 1 2 (omega arith) tt tt) in
      let right = added T₂ T₃ (part (b₂ + b₃) 1 2 (omega arith) tt tt) in
      deeper (lit≤ tt) (added left right (part ((b₀ + b₁) + (b₂ + b₃)) 2 6 (omega arith) tt tt))
