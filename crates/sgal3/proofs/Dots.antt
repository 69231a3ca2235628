-- The products that are left, where none is. Assumes nothing.
use mathlib.Core.Path.{◌≡◌, refl}
use mathlib.Core.List.{List, [], ◌∷◌}
use native.Mathlib.Omega.{arith}
use lib.Ieee.{Float}
use lib.ListN.{length}
use Rattle.law.specs.Rounded.{rounded}
use Rattle.law.specs.Rows.{dot_from}

pub no_row : (s : Float) (r c : List Float) → length r ≡ 0 → dot_from rounded s r c ≡ s
no_row s [] c h = refl
no_row s (a ∷ r) c h = absurd (omega arith)

pub no_column : (s : Float) (r c : List Float) → length c ≡ 0 → dot_from rounded s r c ≡ s
no_column s [] c h = refl
no_column s (a ∷ r) [] h = refl
no_column s (a ∷ r) (b ∷ c) h = absurd (omega arith)
