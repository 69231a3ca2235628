-- Stored vectors: pairs of little-endian words, a pattern and the pattern of its root. Definitions only.
use Rattle.std.specs.Prelude.{ℕ, zero, suc, ◌+◌, ◌*◌, cond, List, eqb}
use Rattle.float.specs.Root.{square_root_bits}
use Rattle.words.specs.Word.{word_at}

-- 1 where the pattern root is not that of the root of b
unfoldable pub wrong : ℕ → ℕ → ℕ
wrong b root = cond (eqb (square_root_bits b) root) 0 1

-- how many of the first n pairs of s are wrong
unfoldable pub wrong_pairs : List ℕ → ℕ → ℕ
wrong_pairs s zero = 0
wrong_pairs s (suc n) = wrong_pairs s n + wrong (word_at s (n * 16)) (word_at s (n * 16 + 8))
