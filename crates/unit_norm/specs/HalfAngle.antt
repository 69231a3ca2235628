-- The sine and the cosine of half the angle of a rotation, as log reads them off its normalised quaternion u. Definitions only.
use Rattle.std.specs.Prelude.{Float}
use Rattle.float.specs.Exact.{abs}
use Rattle.float.specs.Root.{square_root}
use Rattle.half_angle.specs.HalfAngles.{SineCosine}
use Rattle.law.specs.Vector as Vector
use Rattle.law.specs.Quaternion as Quaternion
use Rattle.law.specs.Quaternion.{Quaternion}
use Rattle.law.specs.Rounded.{rounded}

-- the sine: the length of the vector part, its squares added as (x² + y²) + z², each operation rounded
unfoldable pub half_sine : Quaternion Float → Float
half_sine u = square_root (Vector.norm_squared rounded (Quaternion.vector rounded u))

-- the cosine: |w|, since -u stands for the same rotation as u
unfoldable pub half_cosine : Quaternion Float → Float
half_cosine u = abs u.w

-- they are what a half-angle is asked of: numbers from 0 to 2, and their sum is at least ½
abbrev pub SineCosineOf : Quaternion Float → Type 0
SineCosineOf u = SineCosine (half_sine u) (half_cosine u)
