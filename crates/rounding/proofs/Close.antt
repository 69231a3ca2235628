-- How far a number is from an exact fraction, and how large it is: what each operation makes of both. Assumes nothing.
use mathlib.Core.Path.{◌≡◌, refl, sym, ap, ◌∙◌, subst}
use mathlib.Core.Bool.{false}
use Prim.Native.Nat.{ℕ, ◌+◌, ◌*◌, ◌/◌, ◌^◌, ◌≤◌, ◌<◌}
use native.Mathlib.Nat.{le_refl, le_trans, le_of_eq, add_comm, add-le-add, mul-pos, mul-zero, mul_assoc, mul-le-mul, mul-le-mul_left, mul-le-mul_right, le_of_mul-le-mul_left}
use native.Mathlib.Omega.{arith}
use lib.Dec.{lit<, lit≤}
use lib.Ieee.{Float, binary64, neg, add, sub, mul}
use Rattle.float.specs.Exact.{count, negative}
use Rattle.rounding.specs.Number.{Number, one, limit, plus_part, minus_part}
use Rattle.rounding.specs.Error.{Within}
use Rattle.rounding.proofs.Laws.{one-pos, one-limit, parts-sum, plus-parts, neg-number, neg-count, neg-parts, add-number, mul-number, mul-error, add_parts, mul-parts, mul-sign, add-size}

-- 2 ^ -153 and 2 ^ -100 in counts. Both stay shut, so that they are unknowns to `omega`, as `one` is.
unfoldable pub error_unit : ℕ
error_unit = 2 ^ 921

unfoldable pub size_unit : ℕ
size_unit = 2 ^ 974

pub size-error : size_unit ≡ 2 ^ 53 * error_unit
unfolding size_unit error_unit
size-error = refl

pub one-size : one ≡ 2 ^ 100 * size_unit
unfolding one size_unit
one-size = refl

size-pos : 0 < size_unit
unfolding size_unit
size-pos = lit< tt

size-large : 2 ^ 52 ≤ size_unit
unfolding size_unit
size-large = lit≤ tt

-- z is (P - M) / Q but for an error of at most e units of 2 ^ -153, and at most m units of 2 ^ -100 in magnitude
pub record Close (Q P M e m : ℕ) (z : Float) : Type 0 where
  pub number : Number z
  pub near : Within (plus_part z * Q + M * one) (minus_part z * Q + P * one) (e * (error_unit * Q))
  pub size : count z ≤ m * size_unit

-- w is not negative, and the fraction W / D that it is close to is at most X
pub record Factor (D W X e m : ℕ) (w : Float) : Type 0 where
  pub close : Close D W 0 e m w
  pub sign : negative w ≡ false
  pub most : W ≤ X * D

-- a number is its own fraction, over one
pub factor-self : {y : Float} {X : ℕ} → Number y → negative y ≡ false → count y ≤ X * one → Factor one (count y) X 0 (X * 2 ^ 100) y
factor-self {y} {X} Y sign most =
    let p = plus-parts y sign in
    record {
      close = record { number = Y; near = exactly (plus_part y) (minus_part y) (count y) one p.0 p.1; size = in-units (count y) X one size_unit one-size most };
      sign = sign;
      most = most;
    }
  where
    exactly : (p l c o : ℕ) → p ≡ c → l ≡ 0 → Within (p * o + 0 * o) (l * o + c * o) (0 * (error_unit * o))
    exactly p l c o e f = rw (e, f) (record { over = omega arith; under = omega arith })

    in-units : (c X o g : ℕ) → o ≡ 2 ^ 100 * g → c ≤ X * o → c ≤ X * 2 ^ 100 * g
    in-units c X o g e h = le_trans h (le_of_eq (ap (λ (n : ℕ). X * n) e ∙ sym (mul_assoc X (2 ^ 100) g)))

-- ---- what an operation makes of errors and sizes, in units
-- of a product, by those of its factors; the left one's fraction is at most X
unfoldable pub product_error : ℕ → ℕ → ℕ → ℕ → ℕ → ℕ
product_error ew mw X e m = (ew + mw) * m / 2 ^ 100 + X * e + 2

unfoldable pub product_size : ℕ → ℕ → ℕ
product_size mw m = (mw * m + mw * m / 2 ^ 53 + 1) / 2 ^ 100 + 2

-- of a sum or a difference, by those of its operands
unfoldable pub sum_error : ℕ → ℕ → ℕ → ℕ → ℕ
sum_error e m e' m' = e + e' + (m + m')

unfoldable pub sum_size : ℕ → ℕ → ℕ
sum_size m m' = m + m' + (m + m') / 2 ^ 53 + 1

-- a product is finite where the sizes' product is at most the one, and a sum where their sum is at most the other
abbrev pub product_limit : ℕ
product_limit = 2 ^ 220

abbrev pub sum_limit : ℕ
sum_limit = 2 ^ 120

-- ---- the error of a product
-- p replaced by q, which is within d of it, and α - β by P - M, which is within f
combine : (A B k p q d α β M P f E : ℕ) → A + k * (p * β) ≤ B + k * (p * α) + E → p ≤ q + d → q ≤ p + d → α + M ≤ β + P + f
    → A + k * (q * M) ≤ B + k * (q * P) + (E + k * (d * (α + β)) + k * (q * f))
combine A B k p q d α β M P f E h i j l = omega (arith, mul-le-mul_right (k * α) i, mul-le-mul_right (k * β) j, mul-le-mul_left (k * q) l)

-- the errors of the two factors and of the rounding
errors : (k u g o D Q W cw cz ew e mw m X e' K : ℕ) → g ≡ k * u → o ≡ K * g → cw ≤ mw * g → cz ≤ m * g → W ≤ X * D → 2 ^ 52 ≤ g
    → (ew + mw) * m + K * (X * e + 1) ≤ K * e'
    → (cw * cz + 2 ^ 52 * o) * (D * Q) + k * (ew * (u * D) * (cz * Q)) + k * (W * o * (e * (u * Q))) ≤ k * o * (e' * (u * (D * Q)))
errors k u g o D Q W cw cz ew e mw m X e' K hg ho hw hz hx hl h =
    le_trans
    (add3 (mul-le-mul_right (D * Q) (plain cw cz o g mw m hl (mul-le-mul hw hz)))
    (le_trans (le_of_eq (second k u g ew D cz Q hg)) (mul-le-mul_left (ew * g * (D * Q)) hz))
    (le_trans (le_of_eq (third k u g W o e Q hg)) (mul-le-mul_right (o * e * g * Q) hx)))
    (le_trans (le_of_eq (gathered g o K D Q ew mw m X e ho)) (le_trans (mul-le-mul_left (g * g * (D * Q)) h) (le_of_eq (last g o K k u e' D Q hg ho))))
  where
    add3 : {a b c d e f : ℕ} → a ≤ d → b ≤ e → c ≤ f → a + b + c ≤ d + e + f
    add3 h i j = omega arith

    plain : (cw cz o g mw m : ℕ) → 2 ^ 52 ≤ g → cw * cz ≤ mw * g * (m * g) → cw * cz + 2 ^ 52 * o ≤ mw * g * (m * g) + g * o
    plain cw cz o g mw m l h = omega (arith, mul-le-mul_right o l)

    second : (k u g ew D cz Q : ℕ) → g ≡ k * u → k * (ew * (u * D) * (cz * Q)) ≡ ew * g * (D * Q) * cz
    second k u g ew D cz Q e = rw e (omega arith)

    third : (k u g W o e Q : ℕ) → g ≡ k * u → k * (W * o * (e * (u * Q))) ≡ W * (o * e * g * Q)
    third k u g W o e Q h = rw h (omega arith)

    gathered : (g o K D Q ew mw m X e : ℕ) → o ≡ K * g
        → (mw * g * (m * g) + g * o) * (D * Q) + ew * g * (D * Q) * (m * g) + X * D * (o * e * g * Q) ≡ g * g * (D * Q) * ((ew + mw) * m + K * (X * e + 1))
    gathered g o K D Q ew mw m X e h = rw h (omega arith)

    last : (g o K k u e' D Q : ℕ) → g ≡ k * u → o ≡ K * g → g * g * (D * Q) * (K * e') ≡ k * o * (e' * (u * (D * Q)))
    last g o K k u e' D Q h i = step g o K (k * u) h i ∙ omega arith
      where
        step : (g o K v : ℕ) → g ≡ v → o ≡ K * g → g * g * (D * Q) * (K * e') ≡ v * o * (D * Q) * e'
        step g o K v h i = rw (i, ← h) (omega arith)

-- both sides have the factor k * o
cancelled : (k o pr mr T W P M e u : ℕ) → 0 < k * o
    → k * (pr * o) * T + k * (W * o * (M * o)) ≤ k * (mr * o) * T + k * (W * o * (P * o)) + k * o * (e * (u * T))
    → pr * T + W * M * o ≤ mr * T + W * P * o + e * (u * T)
cancelled k o pr mr T W P M e u p h = le_of_mul-le-mul_left {k = k * o} (omega (arith, h)) p

-- the rounded product times D * Q
spread : (k o pr mr cw a b E D Q : ℕ) → k * (pr * o + cw * b) ≤ k * (mr * o + cw * a) + E
    → k * (pr * o) * (D * Q) + k * (cw * D * (b * Q)) ≤ k * (mr * o) * (D * Q) + k * (cw * D * (a * Q)) + E * (D * Q)
spread k o pr mr cw a b E D Q h = omega (arith, mul-le-mul_right (D * Q) h)

module _ (k u g o K : ℕ) (hg : g ≡ k * u) (ho : o ≡ K * g) (hl : 2 ^ 52 ≤ g) (hp : 0 < k * o)
    (D Q W P M cw cz a b ew e mw m X e' : ℕ) (hw : cw ≤ mw * g) (hz : cz ≤ m * g) (hs : cz ≡ a + b) (hx : W ≤ X * D) (h : (ew + mw) * m + K * (X * e + 1) ≤ K * e')
    (w₁ : cw * D ≤ W * o + ew * (u * D)) (w₂ : W * o ≤ cw * D + ew * (u * D)) where
  product-side : (pr mr : ℕ) → k * (pr * o + cw * b) ≤ k * (mr * o + cw * a) + (cw * cz + 2 ^ 52 * o) → a * Q + M * o ≤ b * Q + P * o + e * (u * Q)
      → pr * (D * Q) + W * M * o ≤ mr * (D * Q) + W * P * o + e' * (u * (D * Q))
  product-side pr mr i j =
      let own = (cw * cz + 2 ^ 52 * o) * (D * Q) in
      cancelled k o pr mr (D * Q) W P M e' u hp
      (le_trans
      (combine (k * (pr * o) * (D * Q)) (k * (mr * o) * (D * Q)) k (cw * D) (W * o) (ew * (u * D)) (a * Q) (b * Q) (M * o) (P * o) (e * (u * Q)) own (spread k o pr mr cw a b (cw * cz + 2 ^ 52 * o) D Q i) w₁ w₂ j)
      (add-le-add (le_refl _)
      (le_trans (le_of_eq (ap (λ (x : ℕ). own + k * (ew * (u * D) * x) + k * (W * o * (e * (u * Q)))) (both a b cz Q hs))) (errors k u g o D Q W cw cz ew e mw m X e' K hg ho hw hz hx hl h))))
    where
      both : (a b c Q : ℕ) → c ≡ a + b → a * Q + b * Q ≡ c * Q
      both a b c Q h = rw h (omega arith)

product-error : (ew mw X e m : ℕ) → (ew + mw) * m + 2 ^ 100 * (X * e + 1) ≤ 2 ^ 100 * product_error ew mw X e m
unfolding product_error
product-error ew mw X e m = fits ((ew + mw) * m) (X * e)
  where
    fits : (a b : ℕ) → a + 2 ^ 100 * (b + 1) ≤ 2 ^ 100 * (a / 2 ^ 100 + b + 2)
    fits a b = omega arith

-- ---- the size of a product
product-size : (mw m : ℕ) → (2 ^ 53 + 1) * (mw * m) + 2 ^ 53 * 2 ^ 100 ≤ 2 ^ 53 * (2 ^ 100 * product_size mw m)
unfolding product_size
product-size mw m = fits (mw * m)
  where
    step : (k K a q r : ℕ) → a ≤ k * q + k → a + q + 1 ≤ K * r + K → (k + 1) * a + k * K ≤ k * (K * (r + 2))
    step k K a q r h i = omega (arith, h, mul-le-mul_left k i)

    fits : (a : ℕ) → (2 ^ 53 + 1) * a + 2 ^ 53 * 2 ^ 100 ≤ 2 ^ 53 * (2 ^ 100 * ((a + a / 2 ^ 53 + 1) / 2 ^ 100 + 2))
    fits a = step (2 ^ 53) (2 ^ 100) a (a / 2 ^ 53) ((a + a / 2 ^ 53 + 1) / 2 ^ 100) (omega arith) (omega arith)

products : (mw m cw cz g : ℕ) → cw ≤ mw * g → cz ≤ m * g → cw * cz ≤ mw * m * (g * g)
products mw m cw cz g h i = le_trans (mul-le-mul h i) (le_of_eq (swapped mw m g))
  where
    swapped : (a b g : ℕ) → a * g * (b * g) ≡ a * b * (g * g)
    swapped a b g = omega arith

size-bound : (k K g o c p s m' : ℕ) → 0 < k * (K * g) → 1 ≤ k → o ≡ K * g → 2 ^ 52 ≤ g → p ≤ s * (g * g) → k * (c * o) ≤ k * p + (p + 2 ^ 52 * o)
    → (k + 1) * s + k * K ≤ k * (K * m') → c ≤ m' * g
size-bound k K g o c p s m' kp n e l b a h = le_of_mul-le-mul_left {k = k * (K * g)} (bound k K g c p s m' (rw e at a) b l n h) kp
  where
    bound : (k K g c p s m' : ℕ) → k * (c * (K * g)) ≤ k * p + (p + 2 ^ 52 * (K * g)) → p ≤ s * (g * g) → 2 ^ 52 ≤ g → 1 ≤ k
        → (k + 1) * s + k * K ≤ k * (K * m') → k * (K * g) * c ≤ k * (K * g) * (m' * g)
    bound k K g c p s m' a b l n h = omega (arith, a, mul-le-mul_left (k + 1) b, mul-le-mul_right (g * g) h, mul-le-mul_right (K * g) l, mul-le-mul_right (g * (K * g)) n)

-- ---- product
module _ {D W X ew mw : ℕ} {w : Float} (A : Factor D W X ew mw w) where
  left-over : count w * D ≤ W * one + ew * (error_unit * D)
  left-over = let p = plus-parts w A.sign in go (plus_part w) (minus_part w) (count w) p.0 p.1 A.close.near.over
    where
      go : (p l c : ℕ) → p ≡ c → l ≡ 0 → p * D + 0 * one ≤ l * D + W * one + ew * (error_unit * D) → c * D ≤ W * one + ew * (error_unit * D)
      go p l c e f h = omega (arith, ap (λ (x : ℕ). x * D) e, ap (λ (x : ℕ). x * D) f)

  left-under : W * one ≤ count w * D + ew * (error_unit * D)
  left-under = let p = plus-parts w A.sign in go (plus_part w) (minus_part w) (count w) p.0 p.1 A.close.near.under
    where
      go : (p l c : ℕ) → p ≡ c → l ≡ 0 → l * D + W * one ≤ p * D + 0 * one + ew * (error_unit * D) → W * one ≤ c * D + ew * (error_unit * D)
      go p l c e f h = omega (arith, ap (λ (x : ℕ). x * D) e, ap (λ (x : ℕ). x * D) f)

  product-number : {z : Float} → Number z → (m : ℕ) → count z ≤ m * size_unit → mw * m ≤ product_limit → Number (mul binary64 w z)
  product-number {z} Z m s l =
      mul-number A.close.number Z
      (le_trans (products mw m (count w) (count z) size_unit A.close.size s)
      (le_trans (mul-le-mul_right (size_unit * size_unit) l) (le_trans (le_of_eq ones) (mul-le-mul_right one (le_trans (most one) one-limit)))))
    where
      ones-of : (K g : ℕ) → 2 ^ 20 * (K * K) * (g * g) ≡ 2 ^ 20 * (K * g) * (K * g)
      ones-of K g = omega arith

      ones : product_limit * (size_unit * size_unit) ≡ 2 ^ 20 * one * one
      ones = rw one-size (ones-of (2 ^ 100) size_unit)

      most : (o : ℕ) → 2 ^ 20 * o ≤ 2 ^ 100 * o
      most o = omega arith

  pub close-mul : {Q P M e m : ℕ} {z : Float} → mw * m ≤ product_limit → Close Q P M e m z
      → Close (D * Q) (W * P) (W * M) (product_error ew mw X e m) (product_size mw m) (mul binary64 w z)
  close-mul {Q} {P} {M} {e} {m} {z} l c =
      let N = product-number c.number m c.size l in
      let r = mul binary64 w z in
      let k = 2 ^ 53 in
      let q = plus-parts w A.sign in
      let parts = mul-parts A.close.number c.number N.is_finite in
      let own = count w * count z + 2 ^ 52 * one in
      let side = product-side k error_unit size_unit one (2 ^ 100) size-error one-size size-large (mul-pos (lit< tt) one-pos) D Q W in
      let h = product-error ew mw X e m in
      record {
        number = N;
        near = record {
          over =
              side P M (count w) (count z) (plus_part z) (minus_part z) ew e mw m X (product_error ew mw X e m) A.close.size c.size (parts-sum z) A.most h left-over left-under (plus_part r) (minus_part r)
              (first k one (plus_part r) (minus_part r) (plus_part w) (minus_part w) (count w) (plus_part z) (minus_part z) own q.0 q.1 parts.over) c.near.over;
          under =
              side M P (count w) (count z) (minus_part z) (plus_part z) ew e mw m X (product_error ew mw X e m) A.close.size c.size (parts-sum z ∙ add_comm (plus_part z) (minus_part z)) A.most h left-over left-under (minus_part r) (plus_part r)
              (second k one (plus_part r) (minus_part r) (plus_part w) (minus_part w) (count w) (plus_part z) (minus_part z) own q.0 q.1 parts.under) c.near.under;
        };
        size =
            size-bound (2 ^ 53) (2 ^ 100) size_unit one (count r) (count w * count z) (mw * m) (product_size mw m) (mul-pos (lit< tt) (mul-pos (lit< tt) size-pos)) (lit≤ tt) one-size size-large
            (products mw m (count w) (count z) size_unit A.close.size c.size) (mul-error A.close.number c.number N.is_finite).over (product-size mw m);
      }
    where
      first : (k o pr mr p l c a b E : ℕ) → p ≡ c → l ≡ 0 → k * (pr * o + (p * b + l * a)) ≤ k * (mr * o + (p * a + l * b)) + E
          → k * (pr * o + c * b) ≤ k * (mr * o + c * a) + E
      first k o pr mr p l c a b E e f h = omega (arith, rw (e, f) at h)

      second : (k o pr mr p l c a b E : ℕ) → p ≡ c → l ≡ 0 → k * (mr * o + (p * a + l * b)) ≤ k * (pr * o + (p * b + l * a)) + E
          → k * (mr * o + c * a) ≤ k * (pr * o + c * b) + E
      second k o pr mr p l c a b E e f h = omega (arith, rw (e, f) at h)

-- ---- sum and difference
within-limit : (my mz : ℕ) {cy cz : ℕ} → cy ≤ my * size_unit → cz ≤ mz * size_unit → my + mz ≤ sum_limit → cy + cz ≤ limit
within-limit my mz {cy} {cz} a b l = le_trans (both my mz cy cz size_unit a b l) (le_trans (le_of_eq ones) (le_trans (less one) one-limit))
  where
    both : (my mz cy cz g : ℕ) → cy ≤ my * g → cz ≤ mz * g → my + mz ≤ 2 ^ 120 → cy + cz ≤ 2 ^ 20 * (2 ^ 100 * g)
    both my mz cy cz g a b l = omega (arith, mul-le-mul_right g l)

    ones : 2 ^ 20 * (2 ^ 100 * size_unit) ≡ 2 ^ 20 * one
    ones = rw one-size

    less : (o : ℕ) → 2 ^ 20 * o ≤ 2 ^ 100 * o
    less o = omega arith

spread-sum : (k r l n q y z c Q : ℕ) → k * (r + (l + n)) ≤ k * (q + (y + z)) + c
    → k * (r * Q + (l * Q + n * Q)) ≤ k * (q * Q + (y * Q + z * Q)) + c * Q
spread-sum k r l n q y z c Q h = omega (arith, mul-le-mul_right Q h)

sum-rounding : (k u g Q cy cz my mz : ℕ) → g ≡ k * u → cy ≤ my * g → cz ≤ mz * g → (cy + cz) * Q ≤ k * ((my + mz) * (u * Q))
sum-rounding k u g Q cy cz my mz e a b = omega (arith, mul-le-mul_right Q (rw e at a), mul-le-mul_right Q (rw e at b))

taken-out : (k a b : ℕ) → k * a + k * b ≡ k * (a + b)
taken-out k a b = omega arith

sum-last : (R L N S Y Z M M' P P' e e' m v : ℕ) → R + (L + N) ≤ S + (Y + Z) + m * v → Y + M ≤ L + P + e * v → Z + M' ≤ N + P' + e' * v
    → R + (M + M') ≤ S + (P + P') + (e + e' + m) * v
sum-last R L N S Y Z M M' P P' e e' m v h i j = omega arith

sum-side : (k u g Q cy cz my mz y l z n r q P M P' M' o e e' : ℕ) → 0 < k → g ≡ k * u → k * (r + (l + n)) ≤ k * (q + (y + z)) + (cy + cz)
    → cy ≤ my * g → cz ≤ mz * g
    → y * Q + M * o ≤ l * Q + P * o + e * (u * Q) → z * Q + M' * o ≤ n * Q + P' * o + e' * (u * Q)
    → r * Q + (M + M') * o ≤ q * Q + (P + P') * o + sum_error e my e' mz * (u * Q)
unfolding sum_error
sum-side k u g Q cy cz my mz y l z n r q P M P' M' o e e' p hg h a b i j =
    together (r * Q) (q * Q) M M' P P' o _
    (sum-last (r * Q) (l * Q) (n * Q) (q * Q) (y * Q) (z * Q) (M * o) (M' * o) (P * o) (P' * o) e e' (my + mz) (u * Q)
    (le_of_mul-le-mul_left {k = k} (le_trans (spread-sum k r l n q y z (cy + cz) Q h) (le_trans (add-le-add (le_refl _) (sum-rounding k u g Q cy cz my mz hg a b)) (le_of_eq (taken-out k (q * Q + (y * Q + z * Q)) ((my + mz) * (u * Q)))))) p)
    i j)
  where
    together : (x y M M' P P' o E : ℕ) → x + (M * o + M' * o) ≤ y + (P * o + P' * o) + E → x + (M + M') * o ≤ y + (P + P') * o + E
    together x y M M' P P' o E h = omega (arith, h)

sum-size : (k g cr cy cz my mz m' : ℕ) → 0 < k → k * cr ≤ k * (cy + cz) + (cy + cz) → cy ≤ my * g → cz ≤ mz * g → (k + 1) * (my + mz) ≤ k * m'
    → cr ≤ m' * g
sum-size k g cr cy cz my mz m' p h a b i = le_of_mul-le-mul_left {k = k} (omega (arith, h, mul-le-mul_left (k + 1) a, mul-le-mul_left (k + 1) b, mul-le-mul_right g i)) p

sum-fits : (m m' : ℕ) → (2 ^ 53 + 1) * (m + m') ≤ 2 ^ 53 * sum_size m m'
unfolding sum_size
sum-fits m m' = fits (m + m')
  where
    fits : (a : ℕ) → (2 ^ 53 + 1) * a ≤ 2 ^ 53 * (a + a / 2 ^ 53 + 1)
    fits a = omega arith

pub close-add : {Q P M e m P' M' e' m' : ℕ} {y z : Float} → m + m' ≤ sum_limit → Close Q P M e m y → Close Q P' M' e' m' z
    → Close Q (P + P') (M + M') (sum_error e m e' m') (sum_size m m') (add binary64 y z)
close-add {Q} {P} {M} {e} {m} {P'} {M'} {e'} {m'} {y} {z} l a b =
    let N = add-number a.number b.number (within-limit m m' a.size b.size l) in
    let r = add binary64 y z in
    let h = add_parts a.number b.number N.is_finite in
    let side = sum-side (2 ^ 53) error_unit size_unit Q (count y) (count z) m m' in
    record {
      number = N;
      near = record {
        over = side (plus_part y) (minus_part y) (plus_part z) (minus_part z) (plus_part r) (minus_part r) P M P' M' one e e' (lit< tt) size-error h.over a.size b.size a.near.over b.near.over;
        under = side (minus_part y) (plus_part y) (minus_part z) (plus_part z) (minus_part r) (plus_part r) M P M' P' one e e' (lit< tt) size-error h.under a.size b.size a.near.under b.near.under;
      };
      size = sum-size (2 ^ 53) size_unit (count r) (count y) (count z) m m' (sum_size m m') (lit< tt) (add-size a.number b.number N.is_finite) a.size b.size (sum-fits m m');
    }

pub close-neg : {Q P M e m : ℕ} {z : Float} → Close Q P M e m z → Close Q M P e m (neg z)
close-neg {z = z} a = let p = neg-parts a.number in record { number = neg-number a.number; near = rw (p.0, p.1) (record { over = a.near.under; under = a.near.over }); size = rw (neg-count z) a.size }

pub close-sub : {Q P M e m P' M' e' m' : ℕ} {y z : Float} → m + m' ≤ sum_limit → Close Q P M e m y → Close Q P' M' e' m' z
    → Close Q (P + M') (M + P') (sum_error e m e' m') (sum_size m m') (sub binary64 y z)
unfolding sub
close-sub l a b = close-add l a (close-neg b)

-- ---- the product of two that are not negative
pub factor-mul : {D W X ew mw Q P Y e m : ℕ} {w z : Float} → mw * m ≤ product_limit → Factor D W X ew mw w → Factor Q P Y e m z
    → Factor (D * Q) (W * P) (X * Y) (product_error ew mw X e m) (product_size mw m) (mul binary64 w z)
factor-mul {D} {W} {X} {Q = Q} {P} {Y} l A B =
    let c = close-mul A l B.close in
    record {
      close = record { number = c.number; near = rw (mul-zero W) at c.near; size = c.size };
      sign = mul-sign A.close.number B.close.number c.number.is_finite ∙ rw (A.sign, B.sign) refl;
      most = le_trans (mul-le-mul A.most B.most) (le_of_eq (swapped X D Y Q));
    }
  where
    swapped : (X o Y p : ℕ) → X * o * (Y * p) ≡ X * Y * (o * p)
    swapped X o Y p = omega arith

-- ---- the fraction in another form, and wider bounds
pub close-scale : {Q P M e m : ℕ} {z : Float} → (c : ℕ) → Close Q P M e m z → Close (Q * c) (P * c) (M * c) e m z
close-scale {Q} {P} {M} {e} {m} {z} c a =
    record {
      number = a.number;
      near = record { over = times c (plus_part z) (minus_part z) Q M P one e error_unit a.near.over; under = times c (minus_part z) (plus_part z) Q P M one e error_unit a.near.under };
      size = a.size;
    }
  where
    times : (c p l Q M P o e u : ℕ) → p * Q + M * o ≤ l * Q + P * o + e * (u * Q)
        → p * (Q * c) + M * c * o ≤ l * (Q * c) + P * c * o + e * (u * (Q * c))
    times c p l Q M P o e u h = omega (arith, mul-le-mul_right c h)

pub close-same : {Q P M e m Q' P' M' : ℕ} {z : Float} → Q ≡ Q' → P ≡ P' → M ≡ M' → Close Q P M e m z → Close Q' P' M' e m z
close-same {Q} {P} {M} {e} {m} {Q'} {P'} {M'} {z} p q r a = subst (λ (x : ℕ). Close Q' P' x e m z) r (subst (λ (x : ℕ). Close Q' x M e m z) q (subst (λ (x : ℕ). Close x P M e m z) p a))

pub close-wider : {Q P M e m e' m' : ℕ} {z : Float} → e ≤ e' → m ≤ m' → Close Q P M e m z → Close Q P M e' m' z
close-wider {Q} h i a =
    let g = mul-le-mul_right (error_unit * Q) h in
    record { number = a.number; near = record { over = more _ _ _ _ a.near.over g; under = more _ _ _ _ a.near.under g }; size = le_trans a.size (mul-le-mul_right size_unit i) }
  where
    more : (x y a b : ℕ) → x ≤ y + a → a ≤ b → x ≤ y + b
    more x y a b h i = omega arith
