-- What was compared of a file, where the bytes that its reader gives are known. Definitions only.
use Rattle.std.specs.Prelude.{ℕ, ◌≡◌, ◌/◌, Option, None, Some, List, length}
use Rattle.sqrt_pairs.specs.Pairs.{wrong_pairs}
use Rattle.sqrt_pairs.specs.declared.Tally.{Tally}

-- every pair of the file was compared
abbrev pub AllCompared : Tally → Option (List ℕ) → Type 0
AllCompared t (Some file) = (t.compared ≡ length file / 16) × (t.different ≡ wrong_pairs file (length file / 16))
AllCompared t None = Unit {0}
