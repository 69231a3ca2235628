-- The patterns of small numbers, for worked values. Definitions only.
use Rattle.std.specs.Prelude.{ℕ}

abbrev pub zero : ℕ
zero = 0x0000_0000_0000_0000

abbrev pub minus_zero : ℕ
minus_zero = 0x8000_0000_0000_0000

abbrev pub half : ℕ
half = 0x3fe0_0000_0000_0000

abbrev pub minus_half : ℕ
minus_half = 0xbfe0_0000_0000_0000

abbrev pub one : ℕ
one = 0x3ff0_0000_0000_0000

abbrev pub minus_one : ℕ
minus_one = 0xbff0_0000_0000_0000

abbrev pub two : ℕ
two = 0x4000_0000_0000_0000

abbrev pub minus_two : ℕ
minus_two = 0xc000_0000_0000_0000

abbrev pub two_and_a_half : ℕ
two_and_a_half = 0x4004_0000_0000_0000

abbrev pub three : ℕ
three = 0x4008_0000_0000_0000

abbrev pub minus_three : ℕ
minus_three = 0xc008_0000_0000_0000

abbrev pub four : ℕ
four = 0x4010_0000_0000_0000

abbrev pub minus_four : ℕ
minus_four = 0xc010_0000_0000_0000

abbrev pub five : ℕ
five = 0x4014_0000_0000_0000

abbrev pub six : ℕ
six = 0x4018_0000_0000_0000

abbrev pub eight : ℕ
eight = 0x4020_0000_0000_0000

abbrev pub nine : ℕ
nine = 0x4022_0000_0000_0000

abbrev pub ten : ℕ
ten = 0x4024_0000_0000_0000
