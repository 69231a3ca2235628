-- One addition, over counts: its error is at most the exact sum's magnitude / 2 ^ 53, and at most the magnitude of either operand. Assumes nothing.
use mathlib.Core.Path.{◌≡◌, sym, ap, ◌∙◌, subst}
use mathlib.Core.Bool.{Bool, true, false, not, cond}
use Prim.Native.Nat.{ℕ, ◌+◌, ◌-◌, ◌*◌, ◌^◌, ◌≤◌, ◌<◌}
use native.Mathlib.Nat.{le_trans, le_of_eq, le_of_lt, mul_assoc, mul-pos, mul-div_cancel}
use native.Mathlib.Omega.{arith}
use lib.Dec.{T, ltb, ltb→lt, nltb→le, lit<}
use lib.Pow.{pow_pos}
use lib.IntN.{ℤ, pos, neg_ℤ, nat_abs, ◌+ℤ◌, ◌-ℤ◌, neg_ℤ-neg_ℤ, neg_ℤ-+ℤ, +ℤ_comm}
use lib.Ieee.{Float, nan, inf, fin, binary64, size, round, sum, add}
use lib.Ieee.Nearest.{closest, closest_same}
use lib.Ieee.Scale.{finite}
use Rattle.float.specs.Exact.{shift, count, negative, signed, exact}
use Rattle.float.proofs.Counts.{Counted, digits}
use Rattle.rounding.specs.Number.{Number}
use Rattle.rounding.specs.Error.{RoundedSum}
use Rattle.rounding.proofs.Integers.{dist, Difference, difference-add, difference-less, difference-abs, difference-minus, abs_neg}
use Rattle.rounding.proofs.Counts.{add_is}
use Rattle.rounding.proofs.Grid.{cut, rnd, rnd-off, rnd-near}
use Rattle.rounding.proofs.Round.{rounded, round-counted}

-- ---- a whole number of counts, rounded
whole : (w : ℕ) → rounded (w * 2 ^ 1074) (2 ^ 1074) ≡ rnd 53 w
whole w =
    ap (λ (z : ℕ). closest (w * 2 ^ 1074) (2 ^ 1074 * 2 ^ (size z - 53)) * 2 ^ (size z - 53)) (mul-div_cancel w (pow_pos 1074))
    ∙ ap (λ (z : ℕ). z * 2 ^ cut 53 w) (closest_same (w * 2 ^ 1074) (2 ^ 1074 * 2 ^ cut 53 w) w (2 ^ cut 53 w) (mul-pos (pow_pos 1074) (pow_pos (cut 53 w))) (pow_pos (cut 53 w)) (mul_assoc w (2 ^ 1074) (2 ^ cut 53 w)))

exact-counted : {x : Float} {s : Bool} {a : ℕ} → Counted x s a → exact x ≡ signed s a
unfolding exact
exact-counted {x} {s} {a} h = ap (λ (b : Bool). signed b (count x)) h.sign ∙ ap (signed s) h.size

round_exact : (s : Bool) (w : ℕ) → T (finite (round binary64 s w (2 ^ 1074))) → exact (round binary64 s w (2 ^ 1074)) ≡ signed s (rnd 53 w)
round_exact s w t = exact-counted (round-counted s w (2 ^ 1074) t) ∙ ap (signed s) (whole w)

-- ---- the error of a sum whose operands are a₁ - a₂ and b₁ - b₂, of magnitudes a and b, and whose result is r₁ - r₂, with an error of magnitude d
sum_of : (x y z : ℤ) (a₁ a₂ b₁ b₂ r₁ r₂ a b w d : ℕ) → Difference x a₁ a₂ → Difference y b₁ b₂ → Difference z r₁ r₂
    → dist a₁ a₂ ≡ a → dist b₁ b₂ ≡ b → dist (a₁ + b₁) (a₂ + b₂) ≡ w → dist (r₁ + (a₂ + b₂)) (r₂ + (a₁ + b₁)) ≡ d
    → 2 ^ 53 * d ≤ w → d ≤ a → d ≤ b → RoundedSum x y z
sum_of x y z a₁ a₂ b₁ b₂ r₁ r₂ a b w d X Y Z ea eb ew ed p l r =
    let s = difference-add x y a₁ a₂ b₁ b₂ X Y in
    let e : nat_abs (z -ℤ (x +ℤ y)) ≡ d = difference-abs (z -ℤ (x +ℤ y)) (r₁ + (a₂ + b₂)) (r₂ + (a₁ + b₁)) (difference-less z (x +ℤ y) r₁ r₂ (a₁ + b₁) (a₂ + b₂) Z s) ∙ ed in
    record {
      relative = rw (e, difference-abs (x +ℤ y) (a₁ + b₁) (a₂ + b₂) s ∙ ew) p;
      left = rw (e, difference-abs x a₁ a₂ X ∙ ea) l;
      right = rw (e, difference-abs y b₁ b₂ Y ∙ eb) r;
    }

-- ---- ±a + ±b, by the two signs. `Held a`: the format holds a counts, so that no rounding goes past it
abbrev Held : ℕ → Type 0
Held a = (w : ℕ) → dist (rnd 53 w) w ≤ dist a w

off : (w : ℕ) → 2 ^ 53 * dist (rnd 53 w) w ≤ w
off w = rnd-off 53 w (lit< tt)

difference-plus : (n : ℕ) → Difference (pos n) n 0
difference-plus n = omega arith

-- `omega` splits at most six differences at once, so each equation is a lemma
plus-size : (a : ℕ) → dist a 0 ≡ a
plus-size a = omega arith

minus-size : (a : ℕ) → dist 0 a ≡ a
minus-size a = omega arith

same_size : (a b : ℕ) → dist (a + b) (0 + 0) ≡ a + b
same_size a b = omega arith

opposite-size : (a b : ℕ) → b ≤ a → dist (a + 0) (0 + b) ≡ a - b
opposite-size a b h = omega arith

same-error : (r a b : ℕ) → dist (r + (0 + 0)) (0 + (a + b)) ≡ dist r (a + b)
same-error r a b = omega arith

opposite-error : (r a b : ℕ) → b ≤ a → dist (r + (0 + b)) (0 + (a + 0)) ≡ dist r (a - b)
opposite-error r a b h = omega arith

from-left : (a b : ℕ) → dist a (a + b) ≡ b
from-left a b = omega arith

from-right : (a b : ℕ) → dist b (a + b) ≡ a
from-right a b = omega arith

from-larger : (a b : ℕ) → b ≤ a → dist a (a - b) ≡ b
from-larger a b h = omega arith

-- with the same sign each operand is held, so the error is at most the other
same-signs : (a b : ℕ) → Held a → Held b → RoundedSum (pos a) (pos b) (pos (rnd 53 (a + b)))
same-signs a b A B =
    let w = a + b in
    let r = rnd 53 w in
    sum_of (pos a) (pos b) (pos r) a 0 b 0 r 0 a b w (dist r w) (difference-plus a) (difference-plus b) (difference-plus r) (plus-size a) (plus-size b) (same_size a b) (same-error r a b) (off w)
    (le_trans (B w) (le_of_eq (from-right a b))) (le_trans (A w) (le_of_eq (from-left a b)))

-- with opposite signs the larger is held, so the error is at most the smaller
opposite-signs : (a b : ℕ) → b ≤ a → Held a → RoundedSum (pos a) (neg_ℤ (pos b)) (pos (rnd 53 (a - b)))
opposite-signs a b l A =
    let w = a - b in
    let r = rnd 53 w in
    let k : dist r w ≤ b = le_trans (A w) (le_of_eq (from-larger a b l)) in
    sum_of (pos a) (neg_ℤ (pos b)) (pos r) a 0 0 b r 0 a b w (dist r w) (difference-plus a) (difference-minus b) (difference-plus r) (plus-size a) (minus-size b) (opposite-size a b l) (opposite-error r a b l) (off w) (le_trans k l) k

-- the other signs and orders: every sign turned, and the operands exchanged
turned : {x y z : ℤ} → RoundedSum x y z → RoundedSum (neg_ℤ x) (neg_ℤ y) (neg_ℤ z)
turned {x} {y} {z} h =
    let s : nat_abs (neg_ℤ x +ℤ neg_ℤ y) ≡ nat_abs (x +ℤ y) = ap nat_abs (sym (neg_ℤ-+ℤ x y)) ∙ abs_neg (x +ℤ y) in
    let e : nat_abs (neg_ℤ z -ℤ (neg_ℤ x +ℤ neg_ℤ y)) ≡ nat_abs (z -ℤ (x +ℤ y)) =
    ap (λ (v : ℤ). nat_abs (neg_ℤ z -ℤ v)) (sym (neg_ℤ-+ℤ x y)) ∙ ap nat_abs (sym (neg_ℤ-+ℤ z (neg_ℤ (x +ℤ y)))) ∙ abs_neg (z -ℤ (x +ℤ y)) in
    record { relative = rw (e, s) h.relative; left = rw (e, abs_neg x) h.left; right = rw (e, abs_neg y) h.right }

exchanged : {x y z : ℤ} → RoundedSum x y z → RoundedSum y x z
exchanged {x} {y} {z} h = record { relative = rw (+ℤ_comm y x) h.relative; left = rw (+ℤ_comm y x) h.right; right = rw (+ℤ_comm y x) h.left }

-- both are nothing
equal : (a b : ℕ) → a ≤ b → b ≤ a → b - a ≡ a - b
equal a b h k = omega arith

module _ (a b : ℕ) (A : Held a) (B : Held b) where
  at : {x y z w : ℤ} → z ≡ w → RoundedSum x y w → RoundedSum x y z
  at e h = rw e h

  sum-error : (s t : Bool) → T (finite (sum binary64 s a t b (2 ^ 1074))) → RoundedSum (signed s a) (signed t b) (exact (sum binary64 s a t b (2 ^ 1074)))
  unfolding sum
  sum-error false false h = at (round_exact false (a + b) h) (same-signs a b A B)
  sum-error true true h = at (round_exact true (a + b) h) (turned (same-signs a b A B))
  sum-error false true h = go (ltb a b) (ltb→lt a b) (nltb→le a b) h
    where
      go : (c : Bool) → (T c → a < b) → (T (not c) → b ≤ a) → T (finite (cond c (round binary64 true (b - a) (2 ^ 1074)) (round binary64 false (a - b) (2 ^ 1074))))
          → RoundedSum (pos a) (neg_ℤ (pos b)) (exact (cond c (round binary64 true (b - a) (2 ^ 1074)) (round binary64 false (a - b) (2 ^ 1074))))
      go true l m h = at (round_exact true (b - a) h) (exchanged (rw neg_ℤ-neg_ℤ at (turned (opposite-signs b a (le_of_lt (l tt)) B))))
      go false l m h = at (round_exact false (a - b) h) (opposite-signs a b (m tt) A)
  sum-error true false h = go (ltb a b) (ltb b a) (ltb→lt a b) (nltb→le a b) (nltb→le b a) h
    where
      go : (c d : Bool) → (T c → a < b) → (T (not c) → b ≤ a) → (T (not d) → a ≤ b) → T (finite (cond c (round binary64 false (b - a) (2 ^ 1074)) (round binary64 d (a - b) (2 ^ 1074))))
          → RoundedSum (neg_ℤ (pos a)) (pos b) (exact (cond c (round binary64 false (b - a) (2 ^ 1074)) (round binary64 d (a - b) (2 ^ 1074))))
      go true d l m n h = at (round_exact false (b - a) h) (exchanged (opposite-signs b a (le_of_lt (l tt)) B))
      go false true l m n h = at (round_exact true (a - b) h) (rw neg_ℤ-neg_ℤ at (turned (opposite-signs a b (m tt) A)))
      go false false l m n h = at (round_exact false (a - b) h ∙ ap (λ (w : ℕ). pos (rnd 53 w)) (sym (equal a b (n tt) (m tt)))) (exchanged (opposite-signs b a (n tt) B))

-- ---- `add`
held : {x : Float} → Number x → Held (count x)
unfolding count
held {x} X = go x X
  where
    go : (x : Float) → Number x → Held (count x)
    go nan X = absurd X.is_finite
    go (inf s) X = absurd X.is_finite
    go (fin s m e) X = λ w. rnd-near 53 w m (shift e) (lit< tt) (digits s m e X.is_binary64)

pub add-error : {x y : Float} → Number x → Number y → T (finite (add binary64 x y)) → RoundedSum (exact x) (exact y) (exact (add binary64 x y))
unfolding exact
add-error {x} {y} X Y t =
    let is = add_is X Y in
    subst (λ (z : Float). RoundedSum (exact x) (exact y) (exact z)) (sym is)
    (sum-error (count x) (count y) (held X) (held Y) (negative x) (negative y) (subst (λ (z : Float). T (finite z)) is t))
