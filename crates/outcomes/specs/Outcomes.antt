-- The outcome of a call's answer, as bytes. Definitions only.
use Rattle.std.specs.Prelude.{ℕ, ◌+◌, ◌*◌, ◌≤◌, ◌≡◌, Bool, cond, List, [], ◌++◌, map, length, Option, Some, None, Result, Err, Float}
use Rattle.std.proofs.lemmas.List.Edits.{sets}
use Rattle.std.specs.Float.{binary64}
use Rattle.std.specs.Float.Ieee.{of_bits, to_bits}
use Rattle.words.specs.Word.{bytes_of, word_bytes}
use Rattle.checks.specs.Outcomes.{Outcome, outcome}
use Rattle.checks.specs.Checks.{Check}
use Rattle.checks.specs.declared.Figures.{Figures}
use Rattle.checks.specs.declared.Figures.TheVariants as Figures
use Rattle.checks.specs.declared.Refusal.{Refusal}
use Rattle.manifold.specs.Outcomes.{beside, valid}
use Rattle.outcomes.specs.declared.Request.{Request}

-- ---- words
unfoldable pub first_figure : Figures → ℕ
first_figure Figures.None = 0
first_figure (Figures.Lengths expected actual) = expected
first_figure (Figures.Norm norm) = to_bits binary64 norm

unfoldable pub second_figure : Figures → ℕ
second_figure Figures.None = 0
second_figure (Figures.Lengths expected actual) = actual
second_figure (Figures.Norm norm) = 0

unfoldable pub pair : ℕ → ℕ → List ℕ
pair a b = bytes_of a ++ bytes_of b

unfoldable pub four : ℕ → ℕ → ℕ → ℕ → List ℕ
four a b c d = pair a b ++ pair c d

-- the number, two figures, how many values follow
unfoldable pub header : {A : Type 0} → Outcome A → ℕ → List ℕ
header o n = four o.number (first_figure o.figures) (second_figure o.figures) n

-- the header after a check
unfoldable pub header_of : Check → ℕ → List ℕ
header_of c n = header (outcome {A = ℕ} (λ _. []) [] c) n

-- an outcome whose values are written as words
unfoldable pub bytes : {A : Type 0} → (A → ℕ) → Outcome A → List ℕ
bytes word o = header o (length o.values) ++ word_bytes (map word o.values)

-- the bits of f64 values
unfoldable pub bits : List Float → List ℕ
bits values = word_bytes (map (to_bits binary64) values)

unfoldable pub of_values : Outcome Float → List ℕ
of_values o = bytes (to_bits binary64) o

-- ---- the word besides, as a tolerance
unfoldable pub tolerance : Request → Float
tolerance r = of_bits binary64 r.extra

-- ---- what a call answered
unfoldable pub of_check : Check → List ℕ
of_check c = of_values (outcome (λ _. []) [] c)

-- 1 for yes
unfoldable pub word_of : Bool → ℕ
word_of b = cond b 1 0

unfoldable pub of_valid : Result Bool Refusal → List ℕ
of_valid answer = bytes word_of (valid answer)

-- any other answer, with n times +0 beside a refusal
unfoldable pub of : {A : Type 0} → (A → List Float) → ℕ → Result A Refusal → List ℕ
of values n answer = of_values (beside values n answer)

unfoldable pub of_refusal : Refusal → ℕ → List ℕ
of_refusal r n = of (λ (s : List Float). s) n (Err r)

-- the longest outcome: the header and a hundred values
abbrev pub longest : ℕ
longest = 32 + 100 * 8

-- n bytes, at the start of what held `before` and holds `after`; they fit there
pub record Put (n : ℕ) (before after bytes : List ℕ) : Type 0 where
  pub returned : n ≡ length bytes
  pub stored : after ≡ sets before 0 bytes
  pub fits : n ≤ length before

-- what a request is answered; where there is no such call, nothing is put
unfoldable pub Answered : Option ℕ → List ℕ → List ℕ → Option (List ℕ) → Type 0
Answered (Some n) before after (Some bytes) = Put n before after bytes
Answered (Some n) before after None = ⊥
Answered None before after (Some bytes) = ⊥
Answered None before after None = after ≡ before
