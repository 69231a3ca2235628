-- Sums, differences, products and quotients, over counts. Of each: a number from bounds on its operands (`-number`), its sign, and how far it may be
-- from the exact result (`-error`; with both signs at once, `-parts`). Assumes nothing.
use mathlib.Core.Path.{◌≡◌, refl, sym, ap, ◌∙◌, subst}
use mathlib.Core.Bool.{Bool, true, false, not, ◌&&◌, beq, cond}
use Prim.Native.Nat.{ℕ, zero, suc, ◌+◌, ◌-◌, ◌*◌, ◌^◌, ◌≤◌, ◌<◌}
use native.Mathlib.Nat.{le_trans, le_of_eq, mul_assoc, mul-le-mul_right, le_of_mul-le-mul_right}
use native.Mathlib.Omega.{arith}
use lib.Dec.{T, ltb, lit≤}
use lib.Pow.{pow_pos}
use lib.IntN.{ℤ, pos, nat_abs, neg_ℤ, ◌+ℤ◌, ◌-ℤ◌, ◌*ℤ◌}
use lib.Ieee.{Float, nan, inf, fin, binary64, unlike, round, neg, sum, add, sub, mul, div}
use lib.Ieee.Scale.{finite}
use Rattle.float.specs.Exact.{count, negative, signed, exact}
use Rattle.rounding.specs.Number.{Number, one, limit, plus_part, minus_part}
use Rattle.rounding.specs.Error.{Within, RoundedSum}
use Rattle.rounding.proofs.Integers.{signed-mul, signed-less, dist, above, below, difference-self, difference-add, difference-less, difference-abs}
use Rattle.rounding.proofs.Counts.{add_is, mul_is, div_is, parts-sum, plus-parts, minus-parts, exact_above, exact_below, neg-number, neg-count, neg-sign, neg-parts}
use Rattle.rounding.proofs.Round.{rounded, from-dist, rounded-error, round-counted, round_number}
use Rattle.rounding.proofs.Sum.{add-error}

pub one-pos : 0 < one
unfolding one
one-pos = pow_pos 1074

pub one-large : 2 ^ 120 ≤ one
unfolding one
one-large = lit≤ tt

pub one-limit : 2 ^ 100 * one ≤ limit
unfolding one limit
one-limit = lit≤ tt

-- ---- product
pub mul-number : {x y : Float} → Number x → Number y → count x * count y ≤ limit * one → Number (mul binary64 x y)
unfolding one
mul-number {x} {y} X Y h =
    subst Number (sym (mul_is X Y))
    (round_number (unlike (negative x) (negative y)) (count x * count y) (2 ^ 2148) (pow_pos 2148) (le_trans (mul-le-mul_right (2 ^ 1074) h) (le_of_eq (mul_assoc limit (2 ^ 1074) (2 ^ 1074)))))

pub mul-error : {x y : Float} → Number x → Number y → T (finite (mul binary64 x y))
    → Within (2 ^ 53 * (count (mul binary64 x y) * one)) (2 ^ 53 * (count x * count y)) (count x * count y + 2 ^ 52 * one)
unfolding one
mul-error {x} {y} X Y t =
    let is = mul_is X Y in
    let s = unlike (negative x) (negative y) in
    let p = count x * count y in
    let e : count (mul binary64 x y) ≡ rounded (p * 2 ^ 1074) (2 ^ 2148) = ap count is ∙ (round-counted s p (2 ^ 2148) (subst (λ (v : Float). T (finite v)) is t)).size in
    subst (λ (r : ℕ). Within (2 ^ 53 * (r * 2 ^ 1074)) (2 ^ 53 * p) (p + 2 ^ 52 * 2 ^ 1074)) (sym e)
    (cancel (rounded (p * 2 ^ 1074) (2 ^ 2148)) p (2 ^ 1074) (pow_pos 1074) (rounded-error (p * 2 ^ 1074) (2 ^ 2148) (pow_pos 2148)))
  where
    cancel : (r p l : ℕ) → 0 < l → Within (2 ^ 53 * (r * (l * l))) (2 ^ 53 * (p * l)) (p * l + 2 ^ 52 * (l * l)) → Within (2 ^ 53 * (r * l)) (2 ^ 53 * p) (p + 2 ^ 52 * l)
    cancel r p l P w =
        record {
          over = le_of_mul-le-mul_right {m = 2 ^ 53 * (r * l)} {n = 2 ^ 53 * p + (p + 2 ^ 52 * l)} {k = l} (omega (arith, w.over)) P;
          under = le_of_mul-le-mul_right {m = 2 ^ 53 * p} {n = 2 ^ 53 * (r * l) + (p + 2 ^ 52 * l)} {k = l} (omega (arith, w.under)) P;
        }

pub mul-sign : {x y : Float} → Number x → Number y → T (finite (mul binary64 x y)) → negative (mul binary64 x y) ≡ unlike (negative x) (negative y)
mul-sign {x} {y} X Y t =
    let is = mul_is X Y in
    ap negative is ∙ (round-counted (unlike (negative x) (negative y)) (count x * count y) (2 ^ 2148) (subst (λ (v : Float). T (finite v)) is t)).sign

-- the same over the integers, signs included
pub mul-error-exact : {x y : Float} → Number x → Number y → T (finite (mul binary64 x y))
    → 2 ^ 53 * nat_abs (exact (mul binary64 x y) *ℤ pos one -ℤ exact x *ℤ exact y) ≤ count x * count y + 2 ^ 52 * one
unfolding exact
mul-error-exact {x} {y} X Y t =
    let z = mul binary64 x y in
    let s = unlike (negative x) (negative y) in
    rw (
      mul-sign X Y t,
      signed-mul s false (count z) one,
      signed-mul (negative x) (negative y) (count x) (count y),
      unlike-plain s,
      signed-less s (count z * one) (count x * count y),
    )
    (near (count z * one) (count x * count y) _ (mul-error X Y t))
  where
    unlike-plain : (s : Bool) → unlike s false ≡ s
    unlike-plain true = refl
    unlike-plain false = refl

    near : (a b e : ℕ) → Within (2 ^ 53 * a) (2 ^ 53 * b) e → 2 ^ 53 * dist a b ≤ e
    near a b e w = omega (arith, w.over, w.under)

-- ---- quotient
pub div-number : {x y : Float} → Number x → Number y → 0 < count y → count x * one ≤ limit * count y → Number (div binary64 x y)
unfolding one
div-number {x} {y} X Y P h = subst Number (sym (div_is X Y P)) (round_number (unlike (negative x) (negative y)) (count x) (count y) P h)

pub div-error : {x y : Float} → Number x → Number y → 0 < count y → T (finite (div binary64 x y))
    → Within (2 ^ 53 * (count (div binary64 x y) * count y)) (2 ^ 53 * (count x * one)) (count x * one + 2 ^ 52 * count y)
unfolding one
div-error {x} {y} X Y P t =
    let is = div_is X Y P in
    let s = unlike (negative x) (negative y) in
    let e : count (div binary64 x y) ≡ rounded (count x * 2 ^ 1074) (count y) = ap count is ∙ (round-counted s (count x) (count y) (subst (λ (v : Float). T (finite v)) is t)).size in
    subst (λ (r : ℕ). Within (2 ^ 53 * (r * count y)) (2 ^ 53 * (count x * 2 ^ 1074)) (count x * 2 ^ 1074 + 2 ^ 52 * count y)) (sym e) (rounded-error (count x * 2 ^ 1074) (count y) P)

pub div-sign : {x y : Float} → Number x → Number y → 0 < count y → T (finite (div binary64 x y)) → negative (div binary64 x y) ≡ unlike (negative x) (negative y)
div-sign {x} {y} X Y P t =
    let is = div_is X Y P in
    ap negative is ∙ (round-counted (unlike (negative x) (negative y)) (count x) (count y) (subst (λ (v : Float). T (finite v)) is t)).sign

-- ---- sum
pub add-number : {x y : Float} → Number x → Number y → count x + count y ≤ limit → Number (add binary64 x y)
unfolding sum
add-number {x} {y} X Y h = subst Number (sym (add_is X Y)) (each (negative x) (negative y) (count x) (count y) h)
  where
    each : (s t : Bool) (a b : ℕ) → a + b ≤ limit → Number (sum binary64 s a t b (2 ^ 1074))
    each s t a b h = pick (beq s t) (ltb a b)
      where
        at : (u : Bool) (k : ℕ) → k ≤ a + b → Number (round binary64 u k (2 ^ 1074))
        at u k l = round_number u k (2 ^ 1074) (pow_pos 1074) (mul-le-mul_right (2 ^ 1074) (le_trans l h))

        pick : (p q : Bool) → Number (cond p (round binary64 s (a + b) (2 ^ 1074)) (cond q (round binary64 t (b - a) (2 ^ 1074)) (round binary64 (s && ltb b a) (a - b) (2 ^ 1074))))
        pick true q = at s (a + b) (omega arith)
        pick false true = at t (b - a) (omega arith)
        pick false false = at (s && ltb b a) (a - b) (omega arith)

-- a sum that is finite has finite operands
pub add-operands : (x y : Float) → T (finite (add binary64 x y)) → T (finite x) × T (finite y)
unfolding add
add-operands nan y h = absurd h
add-operands (inf s) nan h = absurd h
add-operands (inf s) (inf t) h = absurd (go (beq s t) h)
  where
    go : (c : Bool) → T (finite (cond c (inf s) nan)) → ⊥
    go true h = h
    go false h = h
add-operands (inf s) (fin t n d) h = absurd h
add-operands (fin s m e) nan h = absurd h
add-operands (fin s m e) (inf t) h = absurd h
add-operands (fin s m e) (fin t n d) h = (tt, tt)

-- a sum of two that are not negative is not
pub add-sign : {x y : Float} → Number x → Number y → negative x ≡ false → negative y ≡ false → T (finite (add binary64 x y)) → negative (add binary64 x y) ≡ false
unfolding sum
add-sign {x} {y} X Y p q t =
    let is = add_is X Y ∙ ap (λ (s : Bool). sum binary64 s (count x) (negative y) (count y) (2 ^ 1074)) p ∙ ap (λ (s : Bool). sum binary64 false (count x) s (count y) (2 ^ 1074)) q in
    ap negative is ∙ plain (subst (λ (v : Float). T (finite v)) is t)
  where
    plain : T (finite (sum binary64 false (count x) false (count y) (2 ^ 1074))) → negative (sum binary64 false (count x) false (count y) (2 ^ 1074)) ≡ false
    plain t = (round-counted false (count x + count y) (2 ^ 1074) t).sign

dist-le : (a b : ℕ) → dist a b ≤ a + b
dist-le a b = omega arith

in_parts : (x y z : ℤ) → 2 ^ 53 * nat_abs (z -ℤ (x +ℤ y)) ≤ nat_abs (x +ℤ y)
    → Within (2 ^ 53 * (above z + (below x + below y))) (2 ^ 53 * (below z + (above x + above y))) ((above x + above y) + (below x + below y))
in_parts x y z h =
    let s = difference-add x y (above x) (below x) (above y) (below y) (difference-self x) (difference-self y) in
    let e = difference-abs (z -ℤ (x +ℤ y)) _ _ (difference-less z (x +ℤ y) (above z) (below z) (above x + above y) (below x + below y) (difference-self z) s) in
    let f = difference-abs (x +ℤ y) _ _ s in
    from-dist (above z + (below x + below y)) (below z + (above x + above y)) ((above x + above y) + (below x + below y))
    (le_trans (subst (λ (v : ℕ). 2 ^ 53 * v ≤ nat_abs (x +ℤ y)) e h) (le_trans (le_of_eq f) (dist-le (above x + above y) (below x + below y))))

pub add_parts : {x y : Float} → Number x → Number y → T (finite (add binary64 x y))
    → Within (2 ^ 53 * (plus_part (add binary64 x y) + (minus_part x + minus_part y))) (2 ^ 53 * (minus_part (add binary64 x y) + (plus_part x + plus_part y))) (count x + count y)
add_parts {x} {y} X Y t =
    let z = add binary64 x y in
    let h = in_parts (exact x) (exact y) (exact z) (add-error X Y t).relative in
    let h' = rw (exact_above z, exact_above x, exact_above y, exact_below z, exact_below x, exact_below y) at h in
    let mx = parts-sum x in
    let my = parts-sum y in
    record { over = omega arith; under = omega arith }

pub add-error-plus : {x y : Float} → Number x → Number y → negative x ≡ false → negative y ≡ false → T (finite (add binary64 x y))
    → Within (2 ^ 53 * count (add binary64 x y)) (2 ^ 53 * (count x + count y)) (count x + count y)
add-error-plus {x} {y} X Y p q t =
    let a = plus-parts x p in
    let b = plus-parts y q in
    let c = plus-parts (add binary64 x y) (add-sign X Y p q t) in
    plain (count (add binary64 x y)) (count x) (count y) (rw (a.0, a.1, b.0, b.1, c.0, c.1) at (add_parts X Y t))
  where
    plain : (z a b : ℕ) → Within (2 ^ 53 * (z + (0 + 0))) (2 ^ 53 * (0 + (a + b))) (a + b) → Within (2 ^ 53 * z) (2 ^ 53 * (a + b)) (a + b)
    plain z a b w = record { over = omega (arith, w.over); under = omega (arith, w.under) }

-- a sum is no larger than the two magnitudes, but for the rounding
pub add-size : {x y : Float} → Number x → Number y → T (finite (add binary64 x y)) → 2 ^ 53 * count (add binary64 x y) ≤ 2 ^ 53 * (count x + count y) + (count x + count y)
add-size {x} {y} X Y t = go (negative (add binary64 x y)) refl
  where
    one_side : (k z p l q m a b : ℕ) → k * (z + (l + m)) ≤ k * (0 + (p + q)) + (a + b) → a ≡ p + l → b ≡ q + m → k * z ≤ k * (a + b) + (a + b)
    one_side k z p l q m a b h e f = omega (arith, ap (λ (x : ℕ). k * x) e, ap (λ (x : ℕ). k * x) f)

    swapped : (x : Float) → count x ≡ minus_part x + plus_part x
    swapped x = let h = parts-sum x in omega arith

    go : (s : Bool) → negative (add binary64 x y) ≡ s → 2 ^ 53 * count (add binary64 x y) ≤ 2 ^ 53 * (count x + count y) + (count x + count y)
    go false p =
        let c = plus-parts (add binary64 x y) p in
        one_side (2 ^ 53) (count (add binary64 x y)) (plus_part x) (minus_part x) (plus_part y) (minus_part y) (count x) (count y) (rw (c.0, c.1) at (add_parts X Y t)).over (parts-sum x) (parts-sum y)
    go true p =
        let c = minus-parts (add binary64 x y) p in
        one_side (2 ^ 53) (count (add binary64 x y)) (minus_part x) (plus_part x) (minus_part y) (plus_part y) (count x) (count y) (rw (c.0, c.1) at (add_parts X Y t)).under (swapped x) (swapped y)

-- ---- difference: the sum with the second operand negated
sub-is-add : (x y : Float) → sub binary64 x y ≡ add binary64 x (neg y)
unfolding sub
sub-is-add x y = refl

pub sub_is : {x y : Float} → Number x → Number y → sub binary64 x y ≡ sum binary64 (negative x) (count x) (not (negative y)) (count y) (2 ^ 1074)
sub_is {x} {y} X Y =
    sub-is-add x y
    ∙ add_is X (neg-number Y)
    ∙ ap (λ (s : Bool). sum binary64 (negative x) (count x) s (count (neg y)) (2 ^ 1074)) (neg-sign Y)
    ∙ ap (λ (n : ℕ). sum binary64 (negative x) (count x) (not (negative y)) n (2 ^ 1074)) (neg-count y)

pub sub_number : {x y : Float} → Number x → Number y → count x + count y ≤ limit → Number (sub binary64 x y)
sub_number {x} {y} X Y h = subst Number (sym (sub-is-add x y)) (add-number X (neg-number Y) (subst (λ (n : ℕ). count x + n ≤ limit) (sym (neg-count y)) h))

pub neg-exact : {y : Float} → Number y → exact (neg y) ≡ neg_ℤ (exact y)
unfolding exact
neg-exact {y} Y = ap (λ (s : Bool). signed s (count (neg y))) (neg-sign Y) ∙ ap (signed (not (negative y))) (neg-count y) ∙ turn (negative y) (count y)
  where
    turn : (s : Bool) (n : ℕ) → signed (not s) n ≡ neg_ℤ (signed s n)
    turn false n = refl
    turn true zero = refl
    turn true (suc n) = refl

pub sub-error : {x y : Float} → Number x → Number y → T (finite (sub binary64 x y)) → RoundedSum (exact x) (neg_ℤ (exact y)) (exact (sub binary64 x y))
sub-error {x} {y} X Y t =
    rw (sub-is-add x y, ← neg-exact Y) (add-error X (neg-number Y) (rw sub-is-add at t))

pub sub_parts : {x y : Float} → Number x → Number y → T (finite (sub binary64 x y))
    → Within (2 ^ 53 * (plus_part (sub binary64 x y) + (minus_part x + plus_part y))) (2 ^ 53 * (minus_part (sub binary64 x y) + (plus_part x + minus_part y))) (count x + count y)
sub_parts {x} {y} X Y t =
    let p = neg-parts Y in
    rw (sub-is-add x y, ← p.0, ← p.1, ← neg-count y) (add_parts X (neg-number Y) (rw sub-is-add at t))

-- ---- product, with both signs: the exact one is plus_part x * plus_part y + minus_part x * minus_part y, less the other two products
both-signs : (k a b c o e : ℕ) → Within (k * (c * o)) (k * (a * b)) e → (s u : Bool)
    → Within (k * (cond (unlike s u) 0 c * o + (cond s 0 a * cond u b 0 + cond s a 0 * cond u 0 b))) (k * (cond (unlike s u) c 0 * o + (cond s 0 a * cond u 0 b + cond s a 0 * cond u b 0))) e
both-signs k a b c o e w false false = record { over = omega (arith, w.over); under = omega (arith, w.under) }
both-signs k a b c o e w false true = record { over = omega (arith, w.under); under = omega (arith, w.over) }
both-signs k a b c o e w true false = record { over = omega (arith, w.under); under = omega (arith, w.over) }
both-signs k a b c o e w true true = record { over = omega (arith, w.over); under = omega (arith, w.under) }

pub mul-parts : {x y : Float} → Number x → Number y → T (finite (mul binary64 x y))
    → Within (2 ^ 53 * (plus_part (mul binary64 x y) * one + (plus_part x * minus_part y + minus_part x * plus_part y))) (2 ^ 53 * (minus_part (mul binary64 x y) * one + (plus_part x * plus_part y + minus_part x * minus_part y))) (count x * count y + 2 ^ 52 * one)
unfolding plus_part minus_part
mul-parts {x} {y} X Y t = rw (mul-sign X Y t) (both-signs (2 ^ 53) (count x) (count y) (count (mul binary64 x y)) one (count x * count y + 2 ^ 52 * one) (mul-error X Y t) (negative x) (negative y))
