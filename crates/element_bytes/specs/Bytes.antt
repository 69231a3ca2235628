-- The values of little-endian bytes, and the bytes of an element. Definitions only.
use Rattle.std.specs.Prelude.{ℕ, zero, suc, ◌+◌, ◌*◌, List, [], ◌∷◌, map, Float}
use Rattle.std.specs.Float.{binary64}
use Rattle.std.specs.Float.Ieee.{to_bits}
use Rattle.words.specs.Word.{value_at, word_bytes}
use Rattle.sgal3.specs.Elements.{rep_size, coeffs}
use Rattle.sgal3.specs.declared.Element.{Element}

-- n values, of eight bytes each, from the place at on
unfoldable pub values_at : ℕ → List ℕ → ℕ → List Float
values_at zero s at = []
values_at (suc n) s at = value_at s at ∷ values_at n s (at + 8)

-- the bytes of values, eight for each
unfoldable pub value_bytes : List Float → List ℕ
value_bytes values = word_bytes (map (to_bits binary64) values)

-- how many bytes an element has
abbrev pub element_size : ℕ
element_size = rep_size * 8

unfoldable pub element_bytes : Element → List ℕ
element_bytes e = value_bytes (coeffs e)
