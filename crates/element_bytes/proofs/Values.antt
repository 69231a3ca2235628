-- The values of bytes, place by place. Assumes nothing.
use Prim.Native.Nat.{ℕ, zero, suc, ◌+◌, ◌-◌, ◌*◌, ◌≤◌, ◌<◌}
use mathlib.Core.Path.{◌≡◌, refl, sym, ap, ◌∙◌}
use mathlib.Core.Bool.{true, false}
use mathlib.Core.List.{List, [], ◌∷◌, ◌++◌}
use native.Mathlib.Omega.{arith}
use lib.ListN.{length, get_or}
use lib.Ieee.{Float}
use lib.Ieee.Scale.{finite}
use Rattle.std.proofs.lemmas.List.{get_or_append_left, get_or-append_right}
use Rattle.checks.specs.Checks.{all_finite}
use Rattle.words.specs.Word.{value_at}
use Rattle.words.proofs.Bytes.{word_same}
use Rattle.manifold.specs.Answers.{vector_at, quaternion_at}
use Rattle.sgal3.specs.Elements.{coeffs, element_of, rep_size}
use Rattle.element_bytes.specs.Bytes.{values_at}

pub eleven : (s : List ℕ) (i : ℕ)
    → values_at rep_size s i
    ≡ value_at s i ∷ value_at s (i + 8) ∷ value_at s (i + 16) ∷ value_at s (i + 24) ∷ value_at s (i + 32) ∷ value_at s (i + 40) ∷ value_at s (i + 48)
    ∷ value_at s (i + 56) ∷ value_at s (i + 64) ∷ value_at s (i + 72) ∷ value_at s (i + 80) ∷ []
unfolding values_at
eleven s i =
    let a : i + 8 + 8 ≡ i + 16 = omega arith in
    let b : i + 16 + 8 ≡ i + 24 = omega arith in
    let c : i + 24 + 8 ≡ i + 32 = omega arith in
    let d : i + 32 + 8 ≡ i + 40 = omega arith in
    let e : i + 40 + 8 ≡ i + 48 = omega arith in
    let f : i + 48 + 8 ≡ i + 56 = omega arith in
    let g : i + 56 + 8 ≡ i + 64 = omega arith in
    let h : i + 64 + 8 ≡ i + 72 = omega arith in
    let k : i + 72 + 8 ≡ i + 80 = omega arith in
    rw (a, b, c, d, e, f, g, h, k)

pub values_length : (n : ℕ) (s : List ℕ) (i : ℕ) → length (values_at n s i) ≡ n
unfolding values_at
values_length zero s i = refl
values_length (suc n) s i = ap suc (values_length n s (i + 8))

pub values-append : (m n : ℕ) (s : List ℕ) (i : ℕ) → values_at (m + n) s i ≡ values_at m s i ++ values_at n s (i + m * 8)
unfolding values_at
values-append zero n s i = let a : 0 + n ≡ n = omega arith in let b : i + 0 * 8 ≡ i = omega arith in rw (a, b)
values-append (suc m) n s i =
    let a : suc m + n ≡ suc (m + n) = omega arith in
    let b : i + suc m * 8 ≡ i + 8 + m * 8 = omega arith in
    rw (a, b) (ap (λ (l : List Float). value_at s i ∷ l) (values-append m n s (i + 8)))

-- ---- the values of the same bytes at another place
pub values-same : (n : ℕ) (s t : List ℕ) (i j : ℕ) → ((k : ℕ) → k < n * 8 → get_or s (i + k) 0 ≡ get_or t (j + k) 0) → values_at n s i ≡ values_at n t j
unfolding values_at value_at
values-same zero s t i j h = refl
values-same (suc n) s t i j h = rw (word_same s t i j (λ k q. h k (omega arith)), values-same n s t (i + 8) (j + 8) later)
  where
    later : (k : ℕ) → k < n * 8 → get_or s (i + 8 + k) 0 ≡ get_or t (j + 8 + k) 0
    later k q =
        let a : i + 8 + k ≡ i + (8 + k) = omega arith in
        let b : j + 8 + k ≡ j + (8 + k) = omega arith in
        rw (a, b) (h (8 + k) (omega arith))

-- of two lists of bytes, one behind the other
pub values-joined : (m n : ℕ) (a b : List ℕ) → length a ≡ m * 8 → values_at (m + n) (a ++ b) 0 ≡ values_at m a 0 ++ values_at n b 0
values-joined m n a b h = values-append m n (a ++ b) 0 ∙ rw (values-same m (a ++ b) a 0 0 front, values-same n (a ++ b) b (0 + m * 8) 0 back)
  where
    front : (k : ℕ) → k < m * 8 → get_or (a ++ b) (0 + k) 0 ≡ get_or a (0 + k) 0
    front k q = get_or_append_left a b 0 (0 + k) (omega arith)

    back : (k : ℕ) → k < n * 8 → get_or (a ++ b) (0 + m * 8 + k) 0 ≡ get_or b (0 + k) 0
    back k q =
        let e : 0 + m * 8 + k - m * 8 ≡ 0 + k = omega arith in
        get_or-append_right a b (m * 8) (0 + m * 8 + k) 0 h (omega arith) ∙ ap (λ (p : ℕ). get_or b p 0) e

-- ---- tested one after the other: the values from the one at i on
module _ (n : ℕ) (s : List ℕ) (start i : ℕ) (h : i < n) where
  first_left : values_at (n - i) s (start + i * 8) ≡ value_at s (start + i * 8) ∷ values_at (n - (i + 1)) s (start + (i + 1) * 8)
  first_left =
      let a : n - i ≡ suc (n - (i + 1)) = omega arith in
      let b : start + (i + 1) * 8 ≡ start + i * 8 + 8 = omega arith in
      rw (a, b) (unfold values_at in refl)

  pub stops : finite (value_at s (start + i * 8)) ≡ false → all_finite (values_at (n - i) s (start + i * 8)) ≡ false
  unfolding all_finite
  stops e = rw (first_left, e)

  pub goes_on : finite (value_at s (start + i * 8)) ≡ true → all_finite (values_at (n - i) s (start + i * 8)) ≡ all_finite (values_at (n - (i + 1)) s (start + (i + 1) * 8))
  unfolding all_finite
  goes_on e = rw (first_left, e)

pub none_left : (n : ℕ) (s : List ℕ) (start i : ℕ) → n ≤ i → all_finite (values_at (n - i) s (start + i * 8)) ≡ true
unfolding values_at all_finite
none_left n s start i h = let e : n - i ≡ 0 = omega arith in rw e

-- the values of a block's element are the block's own
pub element-values : (s : List ℕ) (i : ℕ) → coeffs (element_of (values_at rep_size s i)) ≡ values_at rep_size s i
unfolding coeffs element_of vector_at quaternion_at
element-values s i = ap (λ (v : List Float). coeffs (element_of v)) (eleven s i) ∙ sym (eleven s i)
