-- What is printed of a pattern. Definitions only.
use Rattle.std.specs.Prelude.{ℕ, List, [], ◌∷◌, ◌++◌}
use Prim.Native.Char.{code}
use Rattle.report_text.specs.Digits.{lower_hex}

-- the name, the pattern in sixteen hexadecimal digits, and the line's end
unfoldable pub pattern_line : List ℕ → ℕ → List ℕ
pattern_line name b = name ++ (lower_hex 16 b ++ (code "\n" ∷ []))
