-- The outcome of a call, in the scope's terms: its number, what a refusal carries, and the values. Each type of answer has a definition of its outcome, made
-- with `outcome`, in a file Outcomes. Definitions only.
use Rattle.std.specs.Prelude.{ℕ, cond, List, Result, Ok, Err, Float}
use Rattle.checks.specs.Refusals.{number, figures}
use Rattle.checks.specs.Checks.{all_finite}
use Rattle.checks.specs.declared.Figures.{Figures}
use Rattle.checks.specs.declared.Figures.TheVariants as Figures
use Rattle.checks.specs.declared.Refusal.{Refusal}
use Rattle.checks.specs.declared.Refusal.TheVariants.{Overflow}

-- the values are numbers, or of is_valid one yes or no
pub record Outcome (A : Type 0) : Type 0 where
  pub number : ℕ
  pub figures : Figures
  pub values : List A

-- 0 and no figures where the call is answered; `refused` are the values that stand beside a refusal
unfoldable pub outcome : {T A : Type 0} → (T → List A) → List A → Result T Refusal → Outcome A
outcome values refused (Ok x) = record { number = 0; figures = Figures.None; values = values x }
outcome values refused (Err r) = record { number = number r; figures = figures r; values = refused }

-- a result: its values, or an overflow where one of them is not finite
unfoldable pub result : List Float → List Float → Outcome Float
result values refused = outcome (λ s. s) refused (cond (all_finite values) (Ok values) (Err Overflow))
