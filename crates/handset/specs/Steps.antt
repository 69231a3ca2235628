-- What the private functions of the entries require. Definitions only.
use Rattle.std.specs.Prelude.{ℕ, ◌≡◌, true, List, [], ◌∷◌, Ok, Err}
use Rattle.checks.specs.Checks.{all_finite}
use Rattle.sgal3.specs.Elements as Elements
use Rattle.sgal3_calls.specs.Composition.{Answer}
use Rattle.handset.specs.Entries.{number, written}

-- the element of an answer, where there is one, has finite values
unfoldable pub Finite : Answer → Type 0
Finite (Ok e) = all_finite (Elements.coeffs e) ≡ true
Finite (Err r) = Unit {0}

-- the number of an answer, and the output after it
abbrev pub Stored : Answer → List ℕ → List ℕ → ℕ → Type 0
Stored answer before after r = (r ≡ number answer) × (after ≡ written answer before)

-- the block that a chain starts from: the first one, or the one held where that is empty
unfoldable pub first_or : List ℕ → List ℕ → List ℕ
first_or [] held = held
first_or (b ∷ first) held = b ∷ first
