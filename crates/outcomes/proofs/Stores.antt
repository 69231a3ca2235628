-- Words and values stored one by one. Assumes nothing.
use Prim.Native.Nat.{ℕ, suc, ◌+◌, ◌*◌, ◌≤◌, ◌<◌}
use mathlib.Core.Path.{◌≡◌, refl, sym, subst, ap, ◌∙◌}
use mathlib.Core.Bool.{Bool, true, false}
use mathlib.Core.List.{List, [], ◌∷◌, ◌++◌, map, append-nil, append_assoc}
use native.Mathlib.Omega.{arith}
use native.Mathlib.Numerals.{add-one}
use lib.ListN.{length, drop, get_or, replicate, length-append, length-replicate, drop_of_length-le}
use lib.Seq.{sets, drop-cons}
use lib.Ieee.{Float, nan, binary64, to_bits}
use mir.Val.{bool_byte}
use Rattle.std.proofs.lemmas.List.{map-append, get_or-replicate}
use Rattle.words.specs.Word.{bytes_of, word_bytes}
use Rattle.words.proofs.Stores.{sets-append}
use Rattle.std.specs.Prelude.{Ok, Err}
use Rattle.law.specs.Rounded.{rounded}
use Rattle.checks.specs.Checks.{Check, passed}
use Rattle.checks.specs.Outcomes.{outcome}
use Rattle.checks.specs.declared.Refusal.{Refusal}
use Rattle.manifold.specs.Outcomes.{valid}
use Rattle.ten_rows.specs.TenRows.{values}
use Rattle.outcomes.specs.Outcomes.{pair, four, header, header_of, bytes, bits, of_values, of_check, word_of, of_valid, of, of_refusal}

bytes-length : (n : ℕ) → length (bytes_of n) ≡ 8
unfolding bytes_of
bytes-length n = refl

pub pair-sets : (l : List ℕ) (i a b : ℕ) → sets (sets l i (bytes_of a)) (i + 8) (bytes_of b) ≡ sets l i (pair a b)
unfolding pair
pair-sets l i a b = sets-append (bytes_of a) (bytes_of b) l i (i + 8) (omega (arith, bytes-length a))

pub four-sets : (l : List ℕ) (a b c d : ℕ) → sets (sets l 0 (pair a b)) 16 (pair c d) ≡ sets l 0 (four a b c d)
unfolding four pair bytes_of
four-sets l a b c d = sets-append (pair a b) (pair c d) l 0 16 refl

pub no-value-yet : (l : List ℕ) (at : ℕ) (xs : List Float) → sets l (at + 0 * 8) (bits (drop 0 xs)) ≡ sets l at (bits xs)
no-value-yet l at xs = ap (λ (i : ℕ). sets l i (bits xs)) (omega arith)

-- the value at place k, then the others
pub next-value : (l : List ℕ) (at k : ℕ) (xs : List Float) (d : Float) → k < length xs
    → sets l (at + k * 8) (bits (drop k xs)) ≡ sets (sets l (at + k * 8) (bytes_of (to_bits binary64 (get_or xs k d)))) (at + (k + 1) * 8) (bits (drop (k + 1) xs))
unfolding bits word_bytes
next-value l at k xs d h =
    let b = bytes_of (to_bits binary64 (get_or xs k d)) in
    ap (λ (t : List Float). sets l (at + k * 8) (bits t)) (drop-cons xs k d h)
    ∙ sym (sets-append b (bits (drop (suc k) xs)) l (at + k * 8) (at + (k + 1) * 8) (omega (arith, bytes-length (to_bits binary64 (get_or xs k d)))))
    ∙ ap (λ (m : ℕ). sets (sets l (at + k * 8) b) (at + (k + 1) * 8) (bits (drop m xs))) (sym (add-one k))

pub no_value : (l : List ℕ) (i k : ℕ) (xs : List Float) → length xs ≤ k → sets l i (bits (drop k xs)) ≡ l
unfolding bits word_bytes
no_value l i k xs h = ap (λ (t : List Float). sets l i (bits t)) (drop_of_length-le xs {i = k} h)

-- ---- n times +0, from place k on
zeros-length : (n k : ℕ) → k < n → k < length (replicate n rounded.zero)
zeros-length n k h = omega (arith, length-replicate n rounded.zero, h)

pub next-zero : (l : List ℕ) (at k n : ℕ) → k < n
    → sets l (at + k * 8) (bits (drop k (replicate n rounded.zero))) ≡ sets (sets l (at + k * 8) (bytes_of (to_bits binary64 rounded.zero))) (at + (k + 1) * 8) (bits (drop (k + 1) (replicate n rounded.zero)))
next-zero l at k n h =
    let zeros = replicate n rounded.zero in
    subst
    (λ (x : Float). sets l (at + k * 8) (bits (drop k zeros)) ≡ sets (sets l (at + k * 8) (bytes_of (to_bits binary64 x))) (at + (k + 1) * 8) (bits (drop (k + 1) zeros)))
    (get_or-replicate n k rounded.zero nan h)
    (next-value l at k zeros nan (zeros-length n k h))

pub no_zero : (l : List ℕ) (i k n : ℕ) → n ≤ k → sets l i (bits (drop k (replicate n rounded.zero))) ≡ l
no_zero l i k n h = no_value l i k (replicate n rounded.zero) (omega (arith, length-replicate n rounded.zero, h))

-- ---- an outcome
header-length : (c : Check) (n : ℕ) → length (header_of c n) ≡ 32
unfolding header_of header outcome four pair bytes_of
header-length (Ok x) n = refl
header-length (Err r) n = refl

words-length : (ns : List ℕ) → length (word_bytes ns) ≡ length ns * 8
unfolding word_bytes
words-length [] = refl
words-length (n ∷ ns) = length-append (bytes_of n) (word_bytes ns) ∙ omega (arith, bytes-length n, words-length ns)

map-length : {A : Type 0} (f : A → ℕ) (xs : List A) → length (map f xs) ≡ length xs
map-length f [] = refl
map-length f (x ∷ xs) = ap suc (map-length f xs)

bits-length : (xs : List Float) → length (bits xs) ≡ length xs * 8
unfolding bits
bits-length xs = words-length (map (to_bits binary64) xs) ∙ ap (λ (n : ℕ). n * 8) (map-length (to_bits binary64) xs)

pub of-check : (c : Check) → of_check c ≡ header_of c 0
unfolding of_check of_values bytes header_of header outcome word_bytes
of-check (Ok x) = append-nil (header_of passed 0)
of-check (Err r) = append-nil (header_of (Err r) 0)

pub check-count : (c : Check) → 32 ≡ length (of_check c)
check-count c = sym (ap length (of-check c) ∙ header-length c 0)

pub refused-valid : (r : Refusal) → of_valid (Err r) ≡ of_check (Err r)
unfolding of_valid of_check of_values bytes valid outcome header
refused-valid r = refl

pub one-for-yes : (b : Bool) → bool_byte b ≡ word_of b
unfolding word_of
one-for-yes true = refl
one-for-yes false = refl

pub answered-valid : (b : Bool) → header_of passed 1 ++ bytes_of (word_of b) ≡ of_valid (Ok b)
unfolding of_valid bytes outcome valid header header_of four pair word_bytes bytes_of
answered-valid b = refl

pub valid-count : (b : Bool) → 40 ≡ length (of_valid (Ok b))
unfolding of_valid bytes outcome valid header four pair word_bytes bytes_of
valid-count b = refl

-- an answer's bytes, and a refusal's
pub of-answer : {A : Type 0} (values : A → List Float) (n : ℕ) (x : A) → of values n (Ok x) ≡ header_of passed (length (values x)) ++ bits (values x)
unfolding of of_values bytes outcome header header_of bits
of-answer values n x = refl

pub of-refused : {A : Type 0} (values : A → List Float) (n : ℕ) (r : Refusal) → of values n (Err r) ≡ header_of (Err r) n ++ bits (replicate n rounded.zero)
unfolding of of_values bytes outcome header header_of bits
of-refused values n r = ap (λ (k : ℕ). header_of (Err r) k ++ bits (replicate n rounded.zero)) (length-replicate n rounded.zero)

pub refused-count : {A : Type 0} (values : A → List Float) (n : ℕ) (r : Refusal) → 32 + n * 8 ≡ length (of values n (Err r))
refused-count values n r =
    let zeros = replicate n rounded.zero in
    sym (ap length (of-refused values n r) ∙ length-append (header_of (Err r) n) (bits zeros) ∙ omega (arith, header-length (Err r) n, bits-length zeros, length-replicate n rounded.zero))

pub same-refusal : {A : Type 0} (values : A → List Float) (n : ℕ) (r : Refusal) → of values n (Err r) ≡ of_refusal r n
unfolding of_refusal of of_values bytes outcome header
same-refusal values n r = refl

pub answer-count : {A : Type 0} (values : A → List Float) (n k : ℕ) (x : A) → length (values x) ≡ k → 32 + k * 8 ≡ length (of values n (Ok x))
answer-count values n k x e =
    sym (ap length (of-answer values n x) ∙ length-append (header_of passed (length (values x))) (bits (values x)) ∙ omega (arith, header-length passed (length (values x)), bits-length (values x), e))

pub after-header : (l b : List ℕ) (c : Check) (n : ℕ) → sets (sets l 0 (header_of c n)) 32 b ≡ sets l 0 (header_of c n ++ b)
after-header l b c n = sets-append (header_of c n) b l 0 32 (omega (arith, header-length c n))

-- ---- values, then others after them
words_append : (a b : List ℕ) → word_bytes (a ++ b) ≡ word_bytes a ++ word_bytes b
unfolding word_bytes
words_append [] b = refl
words_append (n ∷ a) b = ap (λ (t : List ℕ). bytes_of n ++ t) (words_append a b) ∙ sym (append_assoc (bytes_of n) (word_bytes a) (word_bytes b))

bits-append : (a b : List Float) → bits (a ++ b) ≡ bits a ++ bits b
unfolding bits
bits-append a b = ap word_bytes (map-append (to_bits binary64) a b) ∙ words_append (map (to_bits binary64) a) (map (to_bits binary64) b)

pub more-values : (l : List ℕ) (i j : ℕ) (a b : List Float) → i + length a * 8 ≡ j → sets (sets l i (bits a)) j (bits b) ≡ sets l i (bits (a ++ b))
more-values l i j a b e = sets-append (bits a) (bits b) l i j (omega (arith, bits-length a, e)) ∙ ap (sets l i) (sym (bits-append a b))

-- ---- ten rows of ten
-- a row's bits, then the others'
row-bits : (r : List Float) (rs : List (List Float)) → bits (values (r ∷ rs)) ≡ bits r ++ bits (values rs)
unfolding values
row-bits r rs = bits-append r (values rs)

pub next_row : (l : List ℕ) (rows : List (List Float)) (d : List Float) (k : ℕ) → k < length rows → length (get_or rows k d) ≡ 10
    → sets l (32 + k * 80) (bits (values (drop k rows))) ≡ sets (sets l (32 + k * 80) (bits (get_or rows k d))) (32 + (k + 1) * 80) (bits (values (drop (k + 1) rows)))
next_row l rows d k h e =
    let b = bits (get_or rows k d) in
    ap (λ (t : List (List Float)). sets l (32 + k * 80) (bits (values t))) (drop-cons rows k d h)
    ∙ ap (sets l (32 + k * 80)) (row-bits (get_or rows k d) (drop (suc k) rows))
    ∙ sym (sets-append b (bits (values (drop (suc k) rows))) l (32 + k * 80) (32 + (k + 1) * 80) (omega (arith, bits-length (get_or rows k d))))
    ∙ ap (λ (m : ℕ). sets (sets l (32 + k * 80) b) (32 + (k + 1) * 80) (bits (values (drop m rows)))) (sym (add-one k))

pub no_row : (l : List ℕ) (i k : ℕ) (rows : List (List Float)) → length rows ≤ k → sets l i (bits (values (drop k rows))) ≡ l
unfolding values bits word_bytes
no_row l i k rows h = ap (λ (t : List (List Float)). sets l i (bits (values t))) (drop_of_length-le rows {i = k} h)

pub next-row-count : (rows : List (List Float)) (d : List Float) (k : ℕ) → k < length rows → length (get_or rows k d) ≡ 10
    → length (values (drop k rows)) ≡ 10 + length (values (drop (k + 1) rows))
unfolding values
next-row-count rows d k h e =
    ap (λ (t : List (List Float)). length (values t)) (drop-cons rows k d h)
    ∙ length-append (get_or rows k d) (values (drop (suc k) rows))
    ∙ ap (λ (m : ℕ). length (get_or rows k d) + length (values (drop m rows))) (sym (add-one k))
    ∙ omega (arith, e)

pub no-row-count : (k : ℕ) (rows : List (List Float)) → length rows ≤ k → length (values (drop k rows)) ≡ 0
unfolding values
no-row-count k rows h = ap (λ (t : List (List Float)). length (values t)) (drop_of_length-le rows {i = k} h)
