-- What the calls sine and cosine answer is finite, and within 2 ^ -45 of the Taylor sum through the 31st power. Assumes nothing.
use mathlib.Core.Path.{◌≡◌, refl, sym, subst}
use mathlib.Core.Bool.{Bool, true, false, cond}
use lib.Dec.{T}
use lib.Ieee.{Float, binary64, lt, fits}
use lib.Ieee.Scale.{finite}
use Rattle.std.specs.Prelude.{◌*◌, ◌≤◌, Ok, Err}
use Rattle.float.specs.Exact.{abs, count}
use Rattle.rounding.specs.Number.{Number, one}
use Rattle.trigonometry.specs.Taylor.{four, sine_sum, cosine_sum, Near}
use Rattle.trigonometry.specs.Sines as Sines
use Rattle.trigonometry.proofs.Accuracy as Accuracy
use Rattle.checks.specs.Checks.{and_then}
use Rattle.checks.specs.declared.Refusal.TheVariants.{NotFinite}
use Rattle.checks.proofs.Passed.{never, same}
use Rattle.manifold.specs.Answers.{within}
use Rattle.so3_calls.specs.Calls.{check_angle, sine, cosine}

-- what is answered is v, of a finite number of magnitude at most 4
record Answered (x v r : Float) : Type 0 where
  number : Number x
  most : count x ≤ 4 * one
  is : v ≡ r

answered : (x v r : Float) → T (fits binary64 x) → and_then (check_angle x) (λ _. Ok v) ≡ Ok r → Answered x v r
unfolding check_angle within
answered x v r X = go (finite x) (lt four (abs x)) refl refl
  where
    go : (b c : Bool) → finite x ≡ b → lt four (abs x) ≡ c → and_then (cond b (within c) (Err NotFinite)) (λ _. Ok v) ≡ Ok r → Answered x v r
    go false c e f h = never h
    go true true e f h = never h
    go true false e f h =
        let N : Number x = record { is_binary64 = X; is_finite = subst T (sym e) tt } in
        record { number = N; most = Accuracy.not-above-four N f; is = same h }

pub sine-near : (x r : Float) → T (fits binary64 x) → sine x ≡ Ok r → Near sine_sum x r
unfolding sine
sine-near x r X h = let a = answered x (Sines.sine x) r X h in subst (Near sine_sum x) a.is (Accuracy.sine-near a.number a.most)

pub cosine-near : (x r : Float) → T (fits binary64 x) → cosine x ≡ Ok r → Near cosine_sum x r
unfolding cosine
cosine-near x r X h = let a = answered x (Sines.cosine x) r X h in subst (Near cosine_sum x) a.is (Accuracy.cosine-near a.number a.most)
