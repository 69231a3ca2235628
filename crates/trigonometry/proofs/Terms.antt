-- The Taylor sums over ℤ, at n / d and at -n / d: the sum of the terms that are added less that of those subtracted; for sine at -n / d the two are exchanged.
-- Assumes nothing.
use mathlib.Core.Path.{◌≡◌, refl, sym, ap, ◌∙◌, subst}
use mathlib.Core.Bool.{Bool, true, false, not, ◌&&◌, beq, cond}
use mathlib.Core.List.{List, [], ◌∷◌, map}
use Prim.Native.Nat.{ℕ, zero, suc, ◌+◌, ◌-◌, ◌*◌, ◌/◌, ◌%◌, ◌^◌}
use native.Mathlib.Nat.{pow-suc, mul-zero}
use native.Mathlib.Omega.{arith}
use lib.Dec.{T, eqb}
use lib.IntN.{ℤ, pos, neg_ℤ, ◌-ℤ◌, ◌*ℤ◌}
use lib.Ieee.{unlike}
use lib.Ieee.Fits.{and_l, and_r}
use Rattle.std.specs.Int.{int_pow}
use Rattle.float.specs.Exact.{signed}
use Rattle.rounding.proofs.Integers.{Difference, difference-self, difference-less, difference-minus, signed-mul}
use Rattle.trigonometry.specs.Taylor.{factorial, term, alternating, odds, evens, sine_sum, cosine_sum}

-- the numerator of (n / d) ^ k / k!, and the sum of those of some exponents
abbrev part : ℕ → ℕ → ℕ → ℕ
part n d k = n ^ k * (d ^ (31 - k) * (factorial 31 / factorial k))

unfoldable pub total : ℕ → ℕ → List ℕ → ℕ
total n d [] = 0
total n d (k ∷ ks) = part n d k + total n d ks

-- the exponents of the terms added and of those subtracted
abbrev pub sine_added : List ℕ
sine_added = 1 ∷ 5 ∷ 9 ∷ 13 ∷ 17 ∷ 21 ∷ 25 ∷ 29 ∷ []

abbrev pub sine_subtracted : List ℕ
sine_subtracted = 3 ∷ 7 ∷ 11 ∷ 15 ∷ 19 ∷ 23 ∷ 27 ∷ 31 ∷ []

abbrev pub cosine_added : List ℕ
cosine_added = 0 ∷ 4 ∷ 8 ∷ 12 ∷ 16 ∷ 20 ∷ 24 ∷ 28 ∷ []

abbrev pub cosine_subtracted : List ℕ
cosine_subtracted = 2 ∷ 6 ∷ 10 ∷ 14 ∷ 18 ∷ 22 ∷ 26 ∷ 30 ∷ []

-- ---- a term keeps the sign where its exponent is odd
abbrev odd : ℕ → Bool
odd k = not (eqb (k % 2) 0)

power-signed : (s : Bool) (n k : ℕ) → int_pow (signed s n) k ≡ signed (s && odd k) (n ^ k)
power-signed false n k = refl
power-signed true zero zero = refl
power-signed true zero (suc k) = rw (pow-suc 0 k, mul-zero (0 ^ k)) (unsigned (odd (suc k)))
  where
    unsigned : (b : Bool) → pos 0 ≡ signed b 0
    unsigned false = refl
    unsigned true = refl
power-signed true (suc n) k = go (eqb (k % 2) 0)
  where
    go : (b : Bool) → cond b (pos (suc n ^ k)) (neg_ℤ (pos (suc n ^ k))) ≡ signed (not b) (suc n ^ k)
    go true = refl
    go false = refl

term-signed : (s : Bool) (n d k : ℕ) → term d (signed s n) k ≡ signed (s && odd k) (part n d k)
unfolding term
term-signed s n d k =
    let c = d ^ (31 - k) * (factorial 31 / factorial k) in
    let t = s && odd k in
    ap (λ (z : ℤ). z *ℤ pos c) (power-signed s n k) ∙ signed-mul t false (n ^ k) c ∙ ap (λ (b : Bool). signed b (n ^ k * c)) (unlike-plain t)
  where
    unlike-plain : (b : Bool) → unlike b false ≡ b
    unlike-plain true = refl
    unlike-plain false = refl

-- ---- every second exponent, from the first or from the second on
abbrev every : Bool → List ℕ → List ℕ
every b [] = []
every true (k ∷ ks) = k ∷ every false ks
every false (k ∷ ks) = every true ks

-- at signed s n the terms of all these exponents have the sign t
abbrev all_signed : Bool → Bool → List ℕ → Bool
all_signed s t [] = true
all_signed s t (k ∷ ks) = beq (s && odd k) t && all_signed s t ks

same : (a b : Bool) → T (beq a b) → a ≡ b
same true true h = refl
same true false h = absurd h
same false true h = absurd h
same false false h = refl

-- z is a - b, turned where t is set
abbrev Signed : Bool → ℤ → ℕ → ℕ → Type 0
Signed t z a b = Difference z (cond t b a) (cond t a b)

next : (t : Bool) (z : ℤ) (p a b : ℕ) → Signed t z a b → Signed t (signed t p -ℤ z) (p + b) a
next false z p a b h = let d = difference-less (pos p) z p 0 a b (difference-self (pos p)) h in omega arith
next true z p a b h = let d = difference-less (neg_ℤ (pos p)) z 0 p b a (difference-minus p) h in omega arith

sums : (s t : Bool) (n d : ℕ) (ks : List ℕ) → T (all_signed s t ks)
    → Signed t (alternating (map (term d (signed s n)) ks)) (total n d (every true ks)) (total n d (every false ks))
unfolding alternating total
sums s false n d [] h = refl
sums s true n d [] h = refl
sums s t n d (k ∷ ks) h =
    let rest = alternating (map (term d (signed s n)) ks) in
    let e = term-signed s n d k ∙ ap (λ (b : Bool). signed b (part n d k)) (same (s && odd k) t (and_l (beq (s && odd k) t) (all_signed s t ks) h)) in
    subst (λ (z : ℤ). Signed t (z -ℤ rest) (part n d k + total n d (every false ks)) (total n d (every true ks))) (sym e)
    (next t rest (part n d k) (total n d (every true ks)) (total n d (every false ks)) (sums s t n d ks (and_r (beq (s && odd k) t) (all_signed s t ks) h)))

pub sine-signed : (s : Bool) (n d : ℕ) → Signed s (sine_sum d (signed s n)) (total n d sine_added) (total n d sine_subtracted)
unfolding sine_sum
sine-signed false n d = sums false false n d odds tt
sine-signed true n d = sums true true n d odds tt

pub cosine-signed : (s : Bool) (n d : ℕ) → Difference (cosine_sum d (signed s n)) (total n d cosine_added) (total n d cosine_subtracted)
unfolding cosine_sum
cosine-signed false n d = sums false false n d evens tt
cosine-signed true n d = sums true false n d evens tt
