-- The 6 by 6 hat is not the algebra of the 5 by 5 matrices: its commutator is not the hat of the bracket, as it is for hat5 (bracket-commutator). Assumes nothing.
use Prim.Native.Nat.{ℕ}
use native.Mathlib.Omega.{arith}
use mathlib.Core.Path.{◌≡◌, ap}
use mathlib.Core.List.{List, []}
use lib.ListN.{get_or}
use lib.IntN.{ℤ, pos, one, nat_abs}
use Rattle.law.specs.Arithmetic.{Arithmetic}
use Rattle.law.specs.Vector as Vector
use Rattle.law.specs.Vector.{Vector}
use Rattle.law.specs.Matrix as Matrix
use Rattle.law.specs.Rows as Rows
use Rattle.law.specs.Galilean as Galilean
use Rattle.law.specs.Galilean.{Tangent, hat, lie_bracket}
use Rattle.law.specs.Exact.{exact}
use Rattle.law.proofs.Model.{exact_integers}

abbrev o : Arithmetic ℤ
o = exact exact_integers

abbrev none : Vector ℤ
none = record { x = pos 0; y = pos 0; z = pos 0 }

-- a translation along x, and one unit of time
abbrev pub ξ : Tangent ℤ
ξ = record { rho = record { x = pos 1; y = pos 0; z = pos 0 }; nu = none; theta = none; s = pos 0 }

abbrev pub η : Tangent ℤ
η = record { rho = none; nu = none; theta = none; s = pos 1 }

-- the place (0,5): 0 in the one, and rho s = 1 in the other
corner : List (List ℤ) → ℕ
corner m = nat_abs (get_or (get_or m 0 []) 5 (pos 0))

pub hat-not-bracket : hat o (lie_bracket o ξ η) ≡ Rows.sub o (Rows.mul o (hat o ξ) (hat o η)) (Rows.mul o (hat o η) (hat o ξ)) → ⊥
unfolding corner hat Galilean.lie_algebra lie_bracket Galilean.by_blocks Galilean.small_adj Galilean.apply_tangent Galilean.row10 Galilean.coeffs Galilean.tangent Rows.sub Rows.mul Rows.apply Rows.dot Rows.transpose Matrix.hat Matrix.scale Matrix.identity Vector.scale Vector.zero one
hat-not-bracket h = apart (ap corner h)
  where
    apart : ◌≡◌ {A = ℕ} 0 1 → ⊥
    apart e = omega arith
