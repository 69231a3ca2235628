-- The outcome of a call's answer: its values, and the +0 that stand beside a refusal of a matrix. Definitions only.
use Rattle.std.specs.Prelude.{ℕ, Bool, List, [], ◌∷◌, replicate, Result, Float}
use Rattle.law.specs.Rounded.{rounded}
use Rattle.checks.specs.Outcomes.{Outcome, outcome}
use Rattle.checks.specs.declared.Refusal.{Refusal}
use Rattle.linear.specs.Records.{vector_values, matrix_values}
use Rattle.linear.specs.declared.Vec3.{Vec3}
use Rattle.linear.specs.declared.Mat3.{Mat3}

-- of any answer, with n times +0 beside a refusal
abbrev pub beside : {A : Type 0} → (A → List Float) → ℕ → Result A Refusal → Outcome Float
beside values n answer = outcome values (replicate n rounded.zero) answer

unfoldable pub vector : Result Vec3 Refusal → Outcome Float
vector answer = outcome vector_values [] answer

unfoldable pub number : Result Float Refusal → Outcome Float
number answer = outcome (λ x. x ∷ []) [] answer

-- yes or no
unfoldable pub valid : Result Bool Refusal → Outcome Bool
valid answer = outcome (λ b. b ∷ []) [] answer

-- by row
unfoldable pub matrix : Result Mat3 Refusal → Outcome Float
matrix answer = beside matrix_values 9 answer

-- a matrix of n places, or the values of an element, listed
unfoldable pub listed : ℕ → Result (List Float) Refusal → Outcome Float
listed n answer = beside (λ s. s) n answer
