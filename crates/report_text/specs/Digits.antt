-- Numbers in digits. Definitions only.
use Rattle.std.specs.Prelude.{ℕ, zero, suc, ◌+◌, ◌-◌, ◌/◌, ◌%◌, cond, List, [], ◌∷◌, ◌++◌, ltb}
use Prim.Native.Char.{code}
use Rattle.report_text.specs.declared.digits.Case.{Case}
use Rattle.report_text.specs.declared.digits.Case.TheVariants.{Lower, Upper}

-- a digit below 36: 0 to 9, then the letters from the one of this code on
abbrev pub digit_from : ℕ → ℕ → ℕ
digit_from letter d = cond (ltb d 10) (code "0" + d) (letter + (d - 10))

-- the last k digits of n in base b, the most significant first, with those letters
abbrev pub digits_from : ℕ → ℕ → ℕ → ℕ → List ℕ
digits_from letter b zero n = []
digits_from letter b (suc k) n = digits_from letter b k (n / b) ++ (digit_from letter (n % b) ∷ [])

-- a digit below 16: 0 to 9, then A to F
unfoldable pub digit : ℕ → ℕ
digit = digit_from (code "A")

-- the last k hexadecimal digits of n
unfoldable pub hex : ℕ → ℕ → List ℕ
hex = digits_from (code "A") 16

-- the same with a to f
unfoldable pub lower_hex : ℕ → ℕ → List ℕ
lower_hex = digits_from (code "a") 16

-- a digit in either case
abbrev pub digit_in : Case → ℕ → ℕ
digit_in Lower = digit_from (code "a")
digit_in Upper = digit

-- the last k hexadecimal digits of n in either case
abbrev pub hex_in : Case → ℕ → ℕ → List ℕ
hex_in Lower = lower_hex
hex_in Upper = hex

-- the first of two columns for a number below 100
unfoldable pub tens : ℕ → ℕ
tens k = cond (ltb k 10) (code " ") (digit (k / 10))

-- the number right-justified in two columns, and a blank
unfoldable pub place : ℕ → List ℕ
place k = tens k ∷ digit (k % 10) ∷ code " " ∷ []

-- a number below 100 in one or two digits
unfoldable pub decimal : ℕ → List ℕ
decimal n = cond (ltb n 10) (digit n ∷ []) (digit (n / 10) ∷ digit (n % 10) ∷ [])
