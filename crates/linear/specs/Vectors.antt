-- The formulas on vectors at the rounded operations. Definitions only.
use Rattle.std.specs.Prelude.{Float}
use Rattle.law.specs.Rounded.{rounded}
use Rattle.law.specs.Vector as Law
use Rattle.linear.specs.declared.Vec3.{Vec3}
use Rattle.linear.specs.Records.{vector, vec3}

unfoldable pub zero : Vec3
zero = vec3 (Law.zero rounded)

unfoldable pub add : Vec3 → Vec3 → Vec3
add a b = vec3 (Law.add rounded (vector a) (vector b))

unfoldable pub sub : Vec3 → Vec3 → Vec3
sub a b = vec3 (Law.sub rounded (vector a) (vector b))

unfoldable pub neg : Vec3 → Vec3
neg a = vec3 (Law.neg rounded (vector a))

unfoldable pub scale : Vec3 → Float → Vec3
scale a k = vec3 (Law.scale rounded (vector a) k)

unfoldable pub divide : Vec3 → Float → Vec3
divide a k = vec3 (Law.divide rounded (vector a) k)

unfoldable pub cross : Vec3 → Vec3 → Vec3
cross a b = vec3 (Law.cross rounded (vector a) (vector b))

unfoldable pub dot : Vec3 → Vec3 → Float
dot a b = Law.dot rounded (vector a) (vector b)

unfoldable pub norm_squared : Vec3 → Float
norm_squared a = Law.norm_squared rounded (vector a)

unfoldable pub norm : Vec3 → Float
norm a = Law.norm rounded (vector a)
