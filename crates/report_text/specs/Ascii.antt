-- The bytes of a written text. Definitions only.
use Rattle.std.specs.Prelude.{ℕ, List, [] as nil, ◌∷◌ as cons}
use Prim.Native.Char.{code}
use Prim.Native.String.{String, [], ◌∷◌}

abbrev pub ascii : String → List ℕ
ascii [] = nil
ascii (c ∷ s) = cons (code c) (ascii s)
