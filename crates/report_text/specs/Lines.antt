-- The lines of a report: one of 20 bytes for each value, or the one of a refusal. Definitions only.
use Rattle.std.specs.Prelude.{ℕ, ◌+◌, List, [], ◌∷◌, ◌++◌, Float}
use Rattle.std.specs.Float.{binary64}
use Rattle.std.specs.Float.Ieee.{to_bits}
use Rattle.report_text.specs.Digits.{hex, place, decimal}
use Rattle.report_text.specs.Ascii.{ascii}

abbrev pub ending : List ℕ
ending = ascii "\n"

-- a line of 20 bytes: the place, the value's bits in sixteen digits, the line's end
unfoldable pub line : ℕ → Float → List ℕ
line k x = place k ++ (hex 16 (to_bits binary64 x) ++ ending)

-- a line for each value, the places counted from k
unfoldable pub lines : ℕ → List Float → List ℕ
lines k [] = []
lines k (x ∷ xs) = line k x ++ lines (k + 1) xs

abbrev pub refused : List ℕ
refused = ascii "refused "

unfoldable pub refusal : ℕ → List ℕ
refusal n = refused ++ (decimal n ++ ending)
