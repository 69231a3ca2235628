-- Matrices of ten rows of ten: a list of the rows. Definitions only.
use Rattle.std.specs.Prelude.{List, [], ◌∷◌, ◌++◌, map, Float}
use Rattle.law.specs.Rounded.{rounded}
use Rattle.law.specs.Rows as Rows
use Rattle.law.specs.Galilean as Law
use Rattle.linear.specs.Records.{vector, matrix as of_mat3}
use Rattle.linear.specs.declared.Vec3.{Vec3}
use Rattle.linear.specs.declared.Mat3.{Mat3}

unfoldable pub row10 : Vec3 → Vec3 → Vec3 → Float → List Float
row10 a b c k = Law.row10 rounded (vector a) (vector b) (vector c) k

unfoldable pub by_blocks : Mat3 → Mat3 → Mat3 → Mat3 → Vec3 → Float → List (List Float)
by_blocks r b c d u k = Law.by_blocks rounded (of_mat3 r) (of_mat3 b) (of_mat3 c) (of_mat3 d) (vector u) k

unfoldable pub neg_row : List Float → List Float
neg_row r = map (λ x. rounded.neg x) r

unfoldable pub neg : List (List Float) → List (List Float)
neg m = Rows.neg rounded m

-- the hundred values, by row
unfoldable pub values : List (List Float) → List Float
values [] = []
values (r ∷ rs) = r ++ values rs
