-- What every outcome has in common. Assumes nothing.
use Prim.Native.Nat.{suc, ◌-◌}
use mathlib.Core.Path.{◌≡◌, refl}
use mathlib.Core.Bool.{Bool, true, false, cond}
use native.Mathlib.Omega.{arith}
use borrow.Author.Tests.{ne_eqb}
use lib.Dec.{eqb}
use Rattle.checks.specs.Refusals.{number}
use Rattle.checks.specs.declared.Refusal.{Refusal}
use Rattle.checks.specs.declared.Refusal.TheVariants.{Length, NotFinite, NotUnit, Turn, Overflow, Tolerance}

-- no refusal has the number 0
pub above_zero : (r : Refusal) → number r ≡ suc (number r - 1)
unfolding number
above_zero (Length expected actual) = refl
above_zero NotFinite = refl
above_zero (NotUnit norm) = refl
above_zero Turn = refl
above_zero Overflow = refl
above_zero Tolerance = refl

pub not-zero : (r : Refusal) → eqb (number r) 0 ≡ false
not-zero r = ne_eqb (number r) 0 (λ e. omega (arith, above_zero r))
