-- All values of a list are finite: tested one at a time, and said of each value and each part. Assumes nothing.
use Prim.Native.Nat.{ℕ, zero, suc, ◌+◌, ◌≤◌, ◌<◌}
use mathlib.Core.Path.{◌≡◌, refl, sym, ap, ◌∙◌}
use mathlib.Core.Bool.{Bool, true, false, ◌&&◌, false≢true}
use mathlib.Core.List.{List, [], ◌∷◌, ◌++◌}
use native.Mathlib.Numerals.{add-one}
use native.Mathlib.Omega.{arith}
use lib.ListN.{length, get_or, drop, drop_of_length-le}
use lib.Seq.{drop-cons}
use lib.Ieee.{Float, nan}
use lib.Ieee.Scale.{finite}
use Rattle.checks.specs.Checks.{all_finite}

-- the values before i decide, and those from i on
pub tested : (b : Bool) (s : List Float) (i : ℕ) → i < length s → (b && all_finite (drop i s)) ≡ ((b && finite (get_or s i nan)) && all_finite (drop (i + 1) s))
unfolding all_finite
tested true s i h = rw (add-one, drop-cons s i nan)
tested false s i h = refl

pub ended : (b : Bool) (s : List Float) (i : ℕ) → length s ≤ i → (b && all_finite (drop i s)) ≡ b
unfolding all_finite
ended true s i h = rw (drop_of_length-le s h)
ended false s i h = refl

-- ---- what it says of a value and of a part
pub both : (a b : Bool) → (a && b) ≡ true → (a ≡ true) × (b ≡ true)
both true true e = (refl, refl)
both true false e = absurd (false≢true e)
both false b e = absurd (false≢true e)

pub finite-at : (s : List Float) → all_finite s ≡ true → (i : ℕ) → i < length s → finite (get_or s i nan) ≡ true
unfolding all_finite
finite-at [] e i h = absurd (omega arith)
finite-at (x ∷ s) e zero h = (both (finite x) (all_finite s) e).0
finite-at (x ∷ s) e (suc i) h = finite-at s (both (finite x) (all_finite s) e).1 i (omega arith)

pub finite-parts : (a b : List Float) → all_finite (a ++ b) ≡ (all_finite a && all_finite b)
unfolding all_finite
finite-parts [] b = refl
finite-parts (x ∷ a) b = ap (λ (t : Bool). finite x && t) (finite-parts a b) ∙ assoc (finite x) (all_finite a) (all_finite b)
  where
    assoc : (a b c : Bool) → (a && (b && c)) ≡ ((a && b) && c)
    assoc true b c = refl
    assoc false b c = refl

pub finite-append : (a b : List Float) → all_finite (a ++ b) ≡ true → (all_finite a ≡ true) × (all_finite b ≡ true)
finite-append a b e = both (all_finite a) (all_finite b) (sym (finite-parts a b) ∙ e)
