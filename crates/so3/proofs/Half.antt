-- A half is 0.5, exactly. Assumes nothing.
use mathlib.Core.Path.{◌≡◌, refl}
use lib.Count.{count_trailing_zeros}
use lib.Ieee.{of_fields, of_bits, binary64, div, round, size, span, climb, odd, units}
use Rattle.law.specs.Rounded.{rounded}
use Rattle.law.specs.Series.{half}

pub half-value : half rounded ≡ of_bits binary64 0x3fe0_0000_0000_0000
unfolding half div round size span climb odd units count_trailing_zeros of_fields of_bits
half-value = refl
