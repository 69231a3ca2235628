-- What `round` does to a whole number w of its format's smallest units, for a format of p digits. Nothing here is about floats.
-- The result, `rnd p w`, is off by at most w / 2 ^ p, and no number q * 2 ^ j with q below 2 ^ p is nearer to w. Assumes nothing.
use mathlib.Core.Path.{◌≡◌, refl, sym, ap, ◌∙◌, subst}
use mathlib.Core.Logic.{◌⊎◌, inl, inr}
use mathlib.Core.Bool.{not}
use Prim.Native.Nat.{ℕ, zero, suc, ◌+◌, ◌-◌, ◌*◌, ◌/◌, ◌%◌, ◌^◌, ◌≤◌, ◌<◌, compare, Ordering}
use native.Mathlib.Nat.{le_trans, le_of_eq, le_of_lt, lt_of_lt_of_le, lt_of_not-le, eq-zero-or-pos, mul_comm, mul_assoc, suc-mul, mul-zero, zero-lt-suc, mul-le-mul_left, mul-le-mul_right, mul-lt-mul_of_pos_right, mod-lt, div-add-mod', le-div_iff_mul-le, pow-suc}
use native.Mathlib.Decide.{dec_le}
use native.Mathlib.Omega.{arith}
use lib.Dec.{T, is_le, compare_is_eq, leb→le, nleb→lt, eqb→eq}
use lib.Pow.{pow-add, pow_pos, pow_mono}
use lib.Ieee.{size, nearest}
use lib.Ieee.Digits.{size_reaches, back}
use lib.Ieee.Nearest.{closest}
use Rattle.rounding.proofs.Integers.{dist}

abbrev pub cut : ℕ → ℕ → ℕ
cut p w = size w - p

abbrev pub rnd : ℕ → ℕ → ℕ
rnd p w = closest w (2 ^ cut p w) * 2 ^ cut p w

-- ---- to the nearest multiple of u
-- the multiple of u below w, with a remainder of at most half of u, or the one above, with at least half
abbrev Down : ℕ → ℕ → ℕ → Type 0
Down w u z = (z ≡ w / u) × (w % u * 2 ≤ u)

abbrev Up : ℕ → ℕ → ℕ → Type 0
Up w u z = (z ≡ suc (w / u)) × (u ≤ w % u * 2)

even-or : (q : ℕ) → (q + q % 2 ≡ q) ⊎ (q + q % 2 ≡ suc q)
even-or q = go (q % 2) refl
  where
    go : (r : ℕ) → q % 2 ≡ r → (q + q % 2 ≡ q) ⊎ (q + q % 2 ≡ suc q)
    go zero e = inl (omega arith)
    go (suc r) e = inr (omega arith)

pick : (w u : ℕ) → Down w u (closest w u) ⊎ Up w u (closest w u)
pick w u = go (compare (w % u * 2) u) (leb→le (w % u * 2) u) (nleb→lt (w % u * 2) u) (eqb→eq (w % u * 2) u)
  where
    go : (o : Ordering) → (T (is_le o) → w % u * 2 ≤ u) → (T (not (is_le o)) → u < w % u * 2) → (T (compare_is_eq o) → w % u * 2 ≡ u)
        → Down w u (nearest (w / u) o) ⊎ Up w u (nearest (w / u) o)
    go Ordering.lt a b c = inl (refl, a tt)
    go Ordering.eq a b c = elim (even-or (w / u)) [ inl e ↦ inl (e, a tt) | inr e ↦ inr (e, le_of_eq (sym (c tt))) ]
    go Ordering.gt a b c = inr (refl, le_of_lt (b tt))

-- with v = w / u * u and r = w % u the result is v or v + u
abbrev Spot : ℕ → ℕ → ℕ → ℕ → Type 0
Spot u v r z = ((z ≡ v) × (r * 2 ≤ u)) ⊎ ((z ≡ v + u) × (u ≤ r * 2))

pub spot : (w u : ℕ) → Spot u (w / u * u) (w % u) (closest w u * u)
spot w u = elim (pick w u) [
  | inl h ↦ inl (ap (λ (z : ℕ). z * u) h.0, h.1)
  | inr h ↦ inr (ap (λ (z : ℕ). z * u) h.0 ∙ suc-mul (w / u) u, h.1)
]

pub half : (u v r w z : ℕ) → v + r ≡ w → r < u → Spot u v r z → dist z w * 2 ≤ u
half u v r w z e l (inl h) = omega arith
half u v r w z e l (inr h) = omega arith

-- no multiple of u between v and v + u is left out
nearer : (u v r w z c : ℕ) → v + r ≡ w → r < u → Spot u v r z → (c ≤ v) ⊎ (v + u ≤ c) → dist z w ≤ dist c w
nearer u v r w z c e l (inl h) (inl k) = omega arith
nearer u v r w z c e l (inl h) (inr k) = omega arith
nearer u v r w z c e l (inr h) (inl k) = omega arith
nearer u v r w z c e l (inr h) (inr k) = omega arith

-- ---- where digits are dropped, w / 2 ^ k has p of them
pub all_in_use : (z p : ℕ) → 0 < p → 0 < z - p → p - 1 + (z - p) < z
all_in_use z p P h = omega arith

full : (p w : ℕ) → 0 < p → 0 < cut p w → 2 ^ (p - 1) * 2 ^ cut p w ≤ w
full p w P K = le_trans (le_of_eq (sym (pow-add 2 (p - 1) (cut p w)))) (size_reaches w (p - 1 + cut p w) (all_in_use (size w) p P K))

-- ---- the error is at most w / 2 ^ p
none : (d u : ℕ) → u ≡ 1 → d * 2 ≤ u → d ≡ 0
none d u e h = omega arith

pub rnd-off : (p w : ℕ) → 0 < p → 2 ^ p * dist (rnd p w) w ≤ w
rnd-off p w P =
    let u = 2 ^ cut p w in
    let d = dist (rnd p w) w in
    let h : d * 2 ≤ u = half u (w / u * u) (w % u) w (rnd p w) (div-add-mod' w u) (mod-lt w (pow_pos (cut p w))) (spot w u) in
    elim (eq-zero-or-pos (cut p w)) [
      | inl e ↦ subst (λ (x : ℕ). 2 ^ p * x ≤ w) (sym (none d u (ap (λ (x : ℕ). 2 ^ x) e) h)) (omega (arith, mul-zero (2 ^ p)))
      | inr K ↦ le_trans (le_of_eq (split p d P)) (le_trans (mul-le-mul_left (2 ^ (p - 1)) h) (full p w P K))
    ]
  where
    one_more : (p : ℕ) → 0 < p → p ≡ suc (p - 1)
    one_more p P = omega arith

    split : (p d : ℕ) → 0 < p → 2 ^ p * d ≡ 2 ^ (p - 1) * (d * 2)
    split p d P = ap (λ (x : ℕ). 2 ^ x * d) (one_more p P) ∙ ap (λ (x : ℕ). x * d) (pow-suc 2 (p - 1)) ∙ mul_assoc (2 ^ (p - 1)) 2 d ∙ ap (λ (x : ℕ). 2 ^ (p - 1) * x) (mul_comm 2 d)

-- ---- and no number of p digits is nearer
room : (p j k : ℕ) → 0 < p → j < k → p + j ≤ p - 1 + k
room p j k P h = omega arith

apart : (p w q j : ℕ) → 0 < p → q < 2 ^ p → (q * 2 ^ j ≤ w / 2 ^ cut p w * 2 ^ cut p w) ⊎ (w / 2 ^ cut p w * 2 ^ cut p w + 2 ^ cut p w ≤ q * 2 ^ j)
apart p w q j P Q = go (dec_le (cut p w) j)
  where
    go : Dec (cut p w ≤ j) → (q * 2 ^ j ≤ w / 2 ^ cut p w * 2 ^ cut p w) ⊎ (w / 2 ^ cut p w * 2 ^ cut p w + 2 ^ cut p w ≤ q * 2 ^ j)
    go (yes h) =
        let u = 2 ^ cut p w in
        let t = q * 2 ^ (j - cut p w) in
        let e : t * u ≡ q * 2 ^ j = mul_assoc q (2 ^ (j - cut p w)) u ∙ ap (λ (x : ℕ). q * x) (sym (pow-add 2 (j - cut p w) (cut p w)) ∙ ap (λ (x : ℕ). 2 ^ x) (back j (cut p w) h)) in
        elim (dec_le t (w / u)) [
          | yes l ↦ inl (le_trans (le_of_eq (sym e)) (mul-le-mul_right u l))
          | no n ↦ inr (le_trans (le_of_eq (sym (suc-mul (w / u) u))) (le_trans (mul-le-mul_right u (lt_of_not-le n)) (le_of_eq e)))
        ]
    go (no n) =
        let k = cut p w in
        let u = 2 ^ k in
        let l : j < k = lt_of_not-le n in
        inl (le_trans (le_of_lt (lt_of_lt_of_le (mul-lt-mul_of_pos_right Q (pow_pos j)) (le_trans (le_of_eq (sym (pow-add 2 p j))) (le_trans (pow_mono (room p j k P l)) (le_of_eq (pow-add 2 (p - 1) k))))))
        (mul-le-mul_right u ((le-div_iff_mul-le (pow_pos k)).1 (full p w P (lt_of_lt_of_le (zero-lt-suc j) l)))))

pub rnd-near : (p w q j : ℕ) → 0 < p → q < 2 ^ p → dist (rnd p w) w ≤ dist (q * 2 ^ j) w
rnd-near p w q j P Q =
    let u = 2 ^ cut p w in
    nearer u (w / u * u) (w % u) w (rnd p w) (q * 2 ^ j) (div-add-mod' w u) (mod-lt w (pow_pos (cut p w))) (spot w u) (apart p w q j P Q)
