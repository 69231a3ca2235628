-- The adjoint's blocks, opened, are the ten rows that sgal3.rs fills, in all hundred places and in any arithmetic. Assumes nothing.
use mathlib.Core.Path.{◌≡◌, refl}
use Rattle.law.specs.Arithmetic.{Arithmetic}
use Rattle.law.specs.Vector as Vector
use Rattle.law.specs.Rotation as Rotation
use Rattle.law.specs.Galilean as Galilean
use Rattle.law.specs.Filled as Filled

pub opened-filled : {A : Type 0} (o : Arithmetic A) (a : Galilean.Element A) → Galilean.opened o (Galilean.adjoint o a) ≡ Filled.adjoint o a
unfolding Galilean.opened Galilean.by_blocks Galilean.row10 Galilean.adjoint Galilean.adjoint_at Galilean.rotation_matrix Rotation.rotation_matrix Vector.zero Filled.over_rows Filled.copy Filled.adjoint
opened-filled o a = refl
