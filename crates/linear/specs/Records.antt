-- The code's records and the formulas' records, field by field, both ways; the values of a record as a list. Definitions only.
use Rattle.std.specs.Prelude.{List, [], ◌∷◌, Float}
use Rattle.law.specs.Vector.{Vector}
use Rattle.law.specs.Quaternion.{Quaternion as Law-as-Quaternion}
use Rattle.law.specs.Matrix.{Matrix}
use Rattle.linear.specs.declared.Vec3.{Vec3}
use Rattle.linear.specs.declared.Quaternion.{Quaternion}
use Rattle.linear.specs.declared.Mat3.{Mat3}

abbrev pub vector : Vec3 → Vector Float
vector a = record { x = a.x; y = a.y; z = a.z }

abbrev pub vec3 : Vector Float → Vec3
vec3 a = record { x = a.x; y = a.y; z = a.z }

abbrev pub quaternion : Quaternion → Law-as-Quaternion Float
quaternion q = record { w = q.w; x = q.x; y = q.y; z = q.z }

abbrev pub of_quaternion : Law-as-Quaternion Float → Quaternion
of_quaternion q = record { w = q.w; x = q.x; y = q.y; z = q.z }

abbrev pub matrix : Mat3 → Matrix Float
matrix m = record { row0 = vector m.row0; row1 = vector m.row1; row2 = vector m.row2 }

abbrev pub mat3 : Matrix Float → Mat3
mat3 m = record { row0 = vec3 m.row0; row1 = vec3 m.row1; row2 = vec3 m.row2 }

-- ---- the values of a vector, and of a matrix by row
abbrev pub vector_values : Vec3 → List Float
vector_values v = v.x ∷ v.y ∷ v.z ∷ []

abbrev pub matrix_values : Mat3 → List Float
matrix_values m = m.row0.x ∷ m.row0.y ∷ m.row0.z ∷ m.row1.x ∷ m.row1.y ∷ m.row1.z ∷ m.row2.x ∷ m.row2.y ∷ m.row2.z ∷ []
