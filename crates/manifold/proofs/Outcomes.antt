-- What is answered with a result: its values, or an overflow. Assumes nothing.
use Prim.Native.Nat.{ℕ}
use mathlib.Core.Path.{◌≡◌, refl, subst}
use mathlib.Core.Bool.{Bool, true, false, cond}
use mathlib.Core.List.{List, []}
use lib.ListN.{replicate}
use lib.Ieee.{Float}
use Rattle.std.specs.Prelude.{Ok, Err}
use Rattle.law.specs.Rounded.{rounded}
use Rattle.checks.specs.Checks.{all_finite}
use Rattle.checks.specs.Outcomes.{outcome, result}
use Rattle.checks.proofs.Passed.{never, same}
use Rattle.checks.specs.declared.Refusal.TheVariants.{Overflow}
use Rattle.linear.specs.Records.{vector_values, matrix_values}
use Rattle.linear.specs.declared.Vec3.{Vec3}
use Rattle.linear.specs.declared.Mat3.{Mat3}
use Rattle.manifold.specs.Answers.{answered}
use Rattle.manifold.specs.Outcomes.{vector, matrix, listed}

-- a result that is answered is the answer, and its values are finite
pub record Finished {A : Type 0} (values : A → List Float) (a c : A) : Type 0 where
  pub is : a ≡ c
  pub finite : all_finite (values c) ≡ true

pub finished : {A : Type 0} (values : A → List Float) (a c : A) → answered values a ≡ Ok c → Finished values a c
unfolding answered
finished {A} values a c = go (all_finite (values a)) refl
  where
    go : (b : Bool) → all_finite (values a) ≡ b → cond b (Ok a) (Err Overflow) ≡ Ok c → Finished values a c
    go true f e = record { is = same e; finite = subst (λ (x : A). all_finite (values x) ≡ true) (same e) f }
    go false f e = never e

-- of any type of answer
pub answered-outcome : {A : Type 0} (values : A → List Float) (refused : List Float) (a : A) → outcome values refused (answered values a) ≡ result (values a) refused
unfolding answered result
answered-outcome values refused a = go (all_finite (values a))
  where
    go : (b : Bool) → outcome values refused (cond b (Ok a) (Err Overflow)) ≡ outcome (λ s. s) refused (cond b (Ok (values a)) (Err Overflow))
    go true = unfold outcome in refl
    go false = unfold outcome in refl

pub vector-outcome : (v : Vec3) → vector (answered vector_values v) ≡ result (vector_values v) []
unfolding vector
vector-outcome = answered-outcome vector_values []

pub matrix-outcome : (m : Mat3) → matrix (answered matrix_values m) ≡ result (matrix_values m) (replicate 9 rounded.zero)
unfolding matrix
matrix-outcome = answered-outcome matrix_values (replicate 9 rounded.zero)

-- a matrix of n places, listed by row
pub listed-outcome : (n : ℕ) (m : List Float) → listed n (answered (λ s. s) m) ≡ result m (replicate n rounded.zero)
unfolding listed
listed-outcome n = answered-outcome (λ s. s) (replicate n rounded.zero)
