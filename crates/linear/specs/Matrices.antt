-- The formulas on matrices of three rows at the rounded operations. Definitions only.
use Rattle.std.specs.Prelude.{Float}
use Rattle.law.specs.Rounded.{rounded}
use Rattle.law.specs.Matrix as Law
use Rattle.linear.specs.declared.Vec3.{Vec3}
use Rattle.linear.specs.declared.Mat3.{Mat3}
use Rattle.linear.specs.Records.{vector, vec3, matrix, mat3}
use Rattle.linear.specs.Vectors as Vectors

unfoldable pub zero : Mat3
zero = record { row0 = Vectors.zero; row1 = Vectors.zero; row2 = Vectors.zero }

unfoldable pub identity : Mat3
identity = mat3 (Law.identity rounded)

unfoldable pub hat : Vec3 → Mat3
hat a = mat3 (Law.hat rounded (vector a))

unfoldable pub add : Mat3 → Mat3 → Mat3
add m n = mat3 (Law.add rounded (matrix m) (matrix n))

unfoldable pub sub : Mat3 → Mat3 → Mat3
sub m n = mat3 (Law.sub rounded (matrix m) (matrix n))

unfoldable pub neg : Mat3 → Mat3
neg m = mat3 (Law.neg rounded (matrix m))

unfoldable pub scale : Mat3 → Float → Mat3
scale m k = mat3 (Law.scale rounded (matrix m) k)

unfoldable pub transpose : Mat3 → Mat3
transpose m = mat3 (Law.transpose rounded (matrix m))

unfoldable pub apply : Mat3 → Vec3 → Vec3
apply m p = vec3 (Law.apply rounded (matrix m) (vector p))

unfoldable pub row_by : Vec3 → Mat3 → Vec3
row_by a m = vec3 (Law.row_by rounded (vector a) (matrix m))

unfoldable pub mul : Mat3 → Mat3 → Mat3
mul m n = mat3 (Law.mul rounded (matrix m) (matrix n))
