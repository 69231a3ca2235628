-- Inputs of the program, and the text that is printed for each: `worked` (proofs/Worked.antt) proves the list.
use Rattle.std.specs.Prelude.{ℕ, List, [], ◌∷◌, ◌++◌, take}
use Prim.Native.String.{String}
use Rattle.words.specs.Word.{word_bytes}
use Rattle.law.specs.Patterns.{half, one, two, three, four}

pub record Worked : Type 0 where
  pub input : List ℕ
  pub said : String

abbrev largest : ℕ
largest = 0x7fef_ffff_ffff_ffff

abbrev nan : ℕ
nan = 0xfff0_0000_0000_0001

-- [1,2,3 | w,0,0,0 | 4,0,0 | s]
abbrev a_with : ℕ → ℕ → List ℕ
a_with w s = word_bytes (one ∷ two ∷ three ∷ w ∷ 0 ∷ 0 ∷ 0 ∷ four ∷ 0 ∷ 0 ∷ s ∷ [])

-- A and B of the bench list
abbrev a : List ℕ
a = a_with one half

abbrev b : List ℕ
b = word_bytes (one ∷ one ∷ one ∷ one ∷ 0 ∷ 0 ∷ 0 ∷ 0 ∷ two ∷ 0 ∷ two ∷ [])

unfoldable pub examples : List Worked
examples =
    record {
      input = a ++ b;
      said =
          " 0 4024000000000000\n 1 4008000000000000\n 2 4010000000000000\n 3 3FF0000000000000\n 4 0000000000000000\n 5 0000000000000000\n 6 0000000000000000\n 7 4010000000000000\n 8 4000000000000000\n 9 0000000000000000\n10 4004000000000000\n";
    }
    ∷ record { input = take 87 a; said = "refused 1\n" }
    ∷ record { input = a ++ a_with one nan; said = "refused 2\n" }
    ∷ record { input = a_with two half ++ b; said = "refused 3\n" }
    ∷ record { input = a_with one largest ++ a_with one largest; said = "refused 5\n" }
    ∷ []
