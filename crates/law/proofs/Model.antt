-- The integers are such an exact arithmetic: what is asked of one holds of something. Assumes nothing.
use mathlib.Core.Path.{refl}
use lib.IntN.{ℤ}
use Rattle.ring.proofs.Integers.{integers}
use Rattle.law.specs.Exact.{Exact}

-- divided by one a number is itself, and one is its own root: here both hold of every number
abbrev pub exact_integers : Exact ℤ
exact_integers = record { ring = integers; div = λ a b. a; root = λ a. a; div-one = λ a. refl; root-one = refl }
