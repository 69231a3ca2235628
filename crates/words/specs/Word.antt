-- A word of eight little-endian bytes, and the number whose bits it is. Definitions only.
use Rattle.std.specs.Prelude.{ℕ, ◌+◌, ◌*◌, ◌/◌, ◌%◌, ◌^◌, List, [], ◌∷◌, ◌++◌, map, get_or, Float}
use Rattle.std.specs.Int.{sum_through}
use Rattle.std.specs.List.{range_with_len}
use Rattle.std.specs.Float.{binary64}
use Rattle.std.specs.Float.Ieee.{of_bits}

-- the word at the eight places from at on: the sum of byte i times 256 ^ i, i from 0 to 7 (sum_through f 7 is f 0 + f 1 + .. + f 7)
unfoldable pub word_at : List ℕ → ℕ → ℕ
word_at s at = sum_through (λ i. get_or s (at + i) 0 * 256 ^ i) 7

-- the number at the eight places from at on; every NaN pattern is the NaN
unfoldable pub value_at : List ℕ → ℕ → Float
value_at s at = of_bits binary64 (word_at s at)

-- the eight bytes of a word, the lowest first: byte i is n / 256 ^ i % 256, i from 0 to 7 (range_with_len 0 8)
unfoldable pub bytes_of : ℕ → List ℕ
bytes_of n = map (λ i. n / 256 ^ i % 256) (range_with_len 0 8)

-- the bytes of words, one after the other
unfoldable pub word_bytes : List ℕ → List ℕ
word_bytes [] = []
word_bytes (n ∷ ns) = bytes_of n ++ word_bytes ns
