-- The formulas on quaternions at the rounded operations. Definitions only.
use Rattle.std.specs.Prelude.{Float}
use Rattle.law.specs.Rounded.{rounded}
use Rattle.law.specs.Quaternion as Law
use Rattle.linear.specs.declared.Vec3.{Vec3}
use Rattle.linear.specs.declared.Quaternion.{Quaternion}
use Rattle.linear.specs.declared.Mat3.{Mat3}
use Rattle.linear.specs.Records.{vector as Records·vector, vec3, quaternion, of_quaternion, mat3}

unfoldable pub identity : Quaternion
identity = of_quaternion (Law.identity rounded)

unfoldable pub vector : Quaternion → Vec3
vector q = vec3 (Law.vector rounded (quaternion q))

unfoldable pub norm : Quaternion → Float
norm q = Law.norm rounded (quaternion q)

unfoldable pub divide : Quaternion → Float → Quaternion
divide q k = of_quaternion (Law.divide rounded (quaternion q) k)

unfoldable pub normalize : Quaternion → Quaternion
normalize q = of_quaternion (Law.normalize rounded (quaternion q))

unfoldable pub mul : Quaternion → Quaternion → Quaternion
mul q r = of_quaternion (Law.mul rounded (quaternion q) (quaternion r))

unfoldable pub conjugate : Quaternion → Quaternion
conjugate q = of_quaternion (Law.conjugate rounded (quaternion q))

unfoldable pub rotate : Quaternion → Vec3 → Vec3
rotate q p = vec3 (Law.rotate rounded (quaternion q) (Records·vector p))

unfoldable pub rotation_matrix : Quaternion → Mat3
rotation_matrix q = mat3 (Law.rotation_matrix rounded (quaternion q))
