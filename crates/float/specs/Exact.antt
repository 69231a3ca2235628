-- The exact value of a finite binary64: a signed count of 2 ^ -1074, of which every finite binary64 is a whole multiple; and the magnitude.
-- No code computes a count. Definitions only.
use Rattle.std.specs.Prelude.{ℕ, suc, ◌+◌, ◌-◌, ◌*◌, ◌^◌, Bool, true, false, ℤ, pos, negsuc, neg_ℤ, Float}
use Rattle.std.specs.Float.{nan, inf, fin}

-- e + 1074, for an e of -1074 or more
abbrev pub shift : ℤ → ℕ
shift (pos k) = 1074 + k
shift (negsuc k) = 1074 - suc k

-- How many times 2 ^ -1074 the magnitude of x is: m * 2 ^ e is m * 2 ^ (e + 1074) counts. A NaN and an infinity have no count, and 0 stands there.
unfoldable pub count : Float → ℕ
count nan = 0
count (inf s) = 0
count (fin s m e) = m * 2 ^ shift e

-- whether the sign is set: -0 has it, and a NaN has none
unfoldable pub negative : Float → Bool
negative nan = false
negative (inf s) = s
negative (fin s m e) = s

-- n, or -n where the sign is set
abbrev pub signed : Bool → ℕ → ℤ
signed false n = pos n
signed true n = neg_ℤ (pos n)

-- the exact value of a finite x, in counts of 2 ^ -1074
unfoldable pub exact : Float → ℤ
unfolding count negative
exact x = signed (negative x) (count x)

-- IEEE 754's abs: x with its sign cleared
unfoldable pub abs : Float → Float
abs nan = nan
abs (inf s) = inf false
abs (fin s m e) = fin false m e
