-- The numbers of a request's words. Definitions only.
use Rattle.std.specs.Prelude.{ℕ, ◌*◌, ◌<◌, ◌≡◌, List, get_or, Float}
use Rattle.std.specs.Float.{nan}
use Rattle.words.specs.Word.{value_at}

-- each of the first n places holds the number of the word at the same place
abbrev pub Values : ℕ → List ℕ → List Float → Type 0
Values n bytes values = (k : ℕ) → k < n → get_or values k nan ≡ value_at bytes (k * 8)
