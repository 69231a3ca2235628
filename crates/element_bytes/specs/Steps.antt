-- What the private functions on parts of an element require and ensure. Definitions only.
use Rattle.std.specs.Prelude.{ℕ, ◌+◌, List, [], ◌∷◌, ◌++◌, Float}
use Rattle.std.specs.Float.{binary64}
use Rattle.std.specs.Float.Ieee.{to_bits}
use Rattle.linear.specs.declared.Vec3.{Vec3}
use Rattle.linear.specs.declared.Quaternion.{Quaternion}
use Rattle.words.specs.Word.{value_at, bytes_of}

-- the vector of three values, and the quaternion of four, from the place at on
unfoldable pub vector_at : List ℕ → ℕ → Vec3
vector_at s at = record { x = value_at s at; y = value_at s (at + 8); z = value_at s (at + 16) }

unfoldable pub quaternion_at : List ℕ → ℕ → Quaternion
quaternion_at s at = record { w = value_at s at; x = value_at s (at + 8); y = value_at s (at + 16); z = value_at s (at + 24) }

-- the values of a quaternion, in the order in which they are stored
abbrev pub quaternion_values : Quaternion → List Float
quaternion_values q = q.w ∷ q.x ∷ q.y ∷ q.z ∷ []

-- ---- their bytes
abbrev pub bytes : Float → List ℕ
bytes x = bytes_of (to_bits binary64 x)

unfoldable pub vector_bytes : Vec3 → List ℕ
vector_bytes a = bytes a.x ++ (bytes a.y ++ bytes a.z)

unfoldable pub quaternion_bytes : Quaternion → List ℕ
quaternion_bytes q = bytes q.w ++ (bytes q.x ++ (bytes q.y ++ bytes q.z))
