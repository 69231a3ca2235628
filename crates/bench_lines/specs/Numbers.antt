-- The answer of is_valid as a number. Definitions only.
use Rattle.std.specs.Prelude.{ℕ, Bool, cond, List, [], ◌∷◌}

-- 1 for yes; 0 for no, and where nothing is answered
unfoldable pub first : List Bool → ℕ
first [] = 0
first (b ∷ bs) = cond b 1 0
