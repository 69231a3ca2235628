-- The line of a pattern: its digits stored behind the name. Assumes nothing.
use Rattle.std.proofs.Common.{ℕ, ◌≡◌, ◌≤◌, ◌∙◌, ap, sym, List, [], ◌∷◌, ◌++◌, length, drop, append_assoc, length-append, arith}
use Rattle.std.proofs.Math.Seq.{take-append_seam, drop-append-add}
use Rattle.std.proofs.lemmas.List.Edits.{sets, sets-eq}
use Prim.Native.Char.{code}
use Rattle.report_text.proofs.DigitsStored.{lower_hex-length}
use Rattle.report_text.specs.Digits.{lower_hex}
use Rattle.sqrt_pairs.specs.Line.{pattern_line}

stored-behind : (a rest d : List ℕ) → length d ≤ length rest → sets (a ++ rest) (length a) d ≡ a ++ (d ++ drop (length d) rest)
stored-behind a rest d fits =
    sets-eq d (a ++ rest) (length a) (omega (arith, length-append a rest)) ∙ simp (take-append_seam, drop-append-add, append_assoc)

pub pattern-stored : (name rest : List ℕ) (b : ℕ) → length name ≡ 28 → length rest ≡ 17 → drop 16 rest ≡ code "\n" ∷ []
    → sets (name ++ rest) 28 (lower_hex 16 b) ≡ pattern_line name b
unfolding pattern_line
pattern-stored name rest b named size end =
    let d = lower_hex 16 b in
    let sixteen : length d ≡ 16 = lower_hex-length 16 b in
    ap (λ i. sets (name ++ rest) i d) (sym named)
    ∙ stored-behind name rest d (omega arith)
    ∙ ap (λ l. name ++ (d ++ l)) (ap (λ k. drop k rest) sixteen ∙ end)
