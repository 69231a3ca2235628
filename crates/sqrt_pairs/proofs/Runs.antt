-- The pairs of one piece after another are those of both. Assumes nothing.
use Rattle.std.proofs.Common.{ℕ, zero, suc, ◌≡◌, ◌+◌, ◌*◌, ◌/◌, ◌<◌, ◌≤◌, ◌∙◌, refl, ap, add-zero, List, ◌++◌, length, length-append, get_or, arith}
use Rattle.std.proofs.Math.ListN.{get_or-append}
use Rattle.std.proofs.lemmas.List.{get_or-append-add}
use Rattle.words.specs.Word.{word_at}
use Rattle.words.proofs.Bytes.{word_same}
use Rattle.sqrt_pairs.specs.Pairs.{wrong, wrong_pairs}

word-before : (a b : List ℕ) (i : ℕ) → i + 8 ≤ length a → word_at (a ++ b) i ≡ word_at a i
word-before a b i fits = word_same (a ++ b) a i i (λ k l. get_or-append a b 0 (i + k) (omega arith))

word-behind : (a b : List ℕ) (i j : ℕ) → i ≡ length a + j → word_at (a ++ b) i ≡ word_at b j
word-behind a b i j e = word_same (a ++ b) b i j byte
  where
    byte : (k : ℕ) → k < 8 → get_or (a ++ b) (i + k) 0 ≡ get_or b (j + k) 0
    byte k l =
        let place : i + k ≡ length a + (j + k) = omega (arith, e) in
        ap (λ (p : ℕ). get_or (a ++ b) p 0) place ∙ get_or-append-add a b (j + k) 0

pairs-before : (a b : List ℕ) (n : ℕ) → n * 16 ≤ length a → wrong_pairs (a ++ b) n ≡ wrong_pairs a n
unfolding wrong_pairs
pairs-before a b zero fits = refl
pairs-before a b (suc n) fits =
    rw (pairs-before a b n (omega arith), word-before a b (n * 16) (omega arith), word-before a b (n * 16 + 8) (omega arith))

pub pairs-of-both : (a b : List ℕ) (n m : ℕ) → length a ≡ n * 16 → wrong_pairs (a ++ b) (n + m) ≡ wrong_pairs a n + wrong_pairs b m
unfolding wrong_pairs
pairs-of-both a b n zero e = rw (add-zero, add-zero) (pairs-before a b n (omega (arith, e)))
pairs-of-both a b n (suc m) e =
    let more : n + suc m ≡ suc (n + m) = omega arith in
    let first : word_at (a ++ b) ((n + m) * 16) ≡ word_at b (m * 16) = word-behind a b _ _ (omega (arith, e)) in
    let second : word_at (a ++ b) ((n + m) * 16 + 8) ≡ word_at b (m * 16 + 8) = word-behind a b _ _ (omega (arith, e)) in
    ap (wrong_pairs (a ++ b)) more ∙ rw (pairs-of-both a b n m e, first, second) (omega arith)

-- the first pair, and those behind it
pub first_pair : (all x rest : List ℕ) → all ≡ x ++ rest → length x ≡ 16
    → (length all / 16 ≡ length rest / 16 + 1) × (wrong_pairs all (length all / 16) ≡ wrong (word_at x 0) (word_at x 8) + wrong_pairs rest (length rest / 16))
unfolding wrong_pairs
first_pair all x rest e size =
    let more : length all / 16 ≡ 1 + length rest / 16 = omega (arith, ap length e, length-append x rest) in
    (omega arith, rw (more, e) (pairs-of-both x rest 1 (length rest / 16) size ∙ omega arith))
