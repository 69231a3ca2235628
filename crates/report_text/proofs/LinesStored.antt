-- Lines stored one by one, and their length. Assumes nothing.
use Prim.Native.Nat.{ℕ, suc, ◌+◌, ◌*◌, ◌≤◌, ◌<◌}
use mathlib.Core.Path.{◌≡◌, refl, sym, ap, ◌∙◌}
use mathlib.Core.List.{List, [], ◌∷◌, ◌++◌}
use native.Mathlib.Omega.{arith}
use native.Mathlib.Numerals.{add-one}
use lib.ListN.{length, drop, get_or, length-append, drop_of_length-le}
use lib.Seq.{sets, drop-cons}
use lib.Ieee.{Float, binary64, to_bits}
use Rattle.words.proofs.Stores.{sets-append, join3}
use Rattle.report_text.specs.Digits.{hex, place, decimal}
use Rattle.report_text.proofs.DigitsStored.{hex-length, decimal_short}
use Rattle.report_text.specs.Lines.{ending, line, lines, refused, refusal}

pub line_sets : (l : List ℕ) (i k : ℕ) (x : Float)
    → sets (sets (sets l i (place k)) (i + 3) (hex 16 (to_bits binary64 x))) (i + 19) ending ≡ sets l i (line k x)
unfolding line place
line_sets l i k x =
    join3 l (place k) (hex 16 (to_bits binary64 x)) ending i (i + 3) (i + 19)
    refl (omega (arith, hex-length 16 (to_bits binary64 x)))

line-length : (k : ℕ) (x : Float) → length (line k x) ≡ 20
unfolding line place
line-length k x =
    omega (arith, length-append (hex 16 (to_bits binary64 x)) ending, hex-length 16 (to_bits binary64 x))

pub lines-length : (k : ℕ) (xs : List Float) → length (lines k xs) ≡ length xs * 20
unfolding lines
lines-length k [] = refl
lines-length k (x ∷ xs) =
    length-append (line k x) (lines (k + 1) xs) ∙ omega (arith, line-length k x, lines-length (k + 1) xs)

pub next-line : (l : List ℕ) (k : ℕ) (xs : List Float) (d : Float) → k < length xs
    → sets l (k * 20) (lines k (drop k xs)) ≡ sets (sets l (k * 20) (line k (get_or xs k d))) ((k + 1) * 20) (lines (k + 1) (drop (k + 1) xs))
unfolding lines
next-line l k xs d h =
    ap (λ (t : List Float). sets l (k * 20) (lines k t)) (drop-cons xs k d h)
    ∙ sym (sets-append (line k (get_or xs k d)) (lines (k + 1) (drop (suc k) xs)) l (k * 20) ((k + 1) * 20) (omega (arith, line-length k (get_or xs k d))))
    ∙ ap (λ (m : ℕ). sets (sets l (k * 20) (line k (get_or xs k d))) ((k + 1) * 20) (lines (k + 1) (drop m xs))) (sym (add-one k))

pub no_line : (l : List ℕ) (i k : ℕ) (xs : List Float) → length xs ≤ k → sets l i (lines k (drop k xs)) ≡ l
unfolding lines
no_line l i k xs h = ap (λ (t : List Float). sets l i (lines k t)) (drop_of_length-le xs {i = k} h)

pub refusal-sets : (l : List ℕ) (n end : ℕ) → end ≡ 8 + length (decimal n)
    → sets (sets (sets l 0 refused) 8 (decimal n)) end ending ≡ sets l 0 (refusal n)
unfolding refusal
refusal-sets l n end e = join3 l refused (decimal n) ending 0 8 end refl e

pub refusal-length : (n : ℕ) → length (refusal n) ≡ 8 + length (decimal n) + 1
unfolding refusal
refusal-length n = length-append refused (decimal n ++ ending) ∙ omega (arith, length-append (decimal n) ending)

pub refusal-short : (n : ℕ) → length (refusal n) ≤ 220
refusal-short n = omega (arith, refusal-length n, decimal_short n)
