-- The worked values of sine and cosine, by computation; and a number whose cosine is more than 2 ^ -48 from the Taylor sum, so the bound can't be that.
-- Assumes nothing.
use mathlib.Core.Path.{◌≡◌, refl}
use mathlib.Core.List.{map}
use Prim.Native.Nat.{◌*◌, ◌^◌, ◌<◌}
use lib.Count.{count_trailing_zeros}
use lib.Dec.{lit<}
use lib.IntN.{pos, nat_abs, ◌-ℤ◌, ◌*ℤ◌}
use lib.Ieee.{Float, binary64, of_bits, to_bits, of_fields, add, sub, mul, neg, lt, eq, sum, round, size, span, climb, odd, units}
use Rattle.float.specs.Exact.{count, negative, exact, abs}
use Rattle.rounding.specs.Number.{one}
use Rattle.trigonometry.specs.Sines.{horner, sine_of, cosine_of, sine, cosine}
use Rattle.trigonometry.specs.Taylor.{factorial, denominator, term, alternating, cosine_sum}
use Rattle.trigonometry.specs.Worked.{Worked, worked_values}

worked-sines : map (λ (w : Worked). to_bits binary64 (sine (of_bits binary64 w.number))) worked_values ≡ map (λ (w : Worked). w.sine) worked_values
unfolding worked_values sine sine_of horner abs add sub mul neg lt eq sum round size span climb odd units count_trailing_zeros of_fields of_bits to_bits
worked-sines = refl

worked-cosines : map (λ (w : Worked). to_bits binary64 (cosine (of_bits binary64 w.number))) worked_values ≡ map (λ (w : Worked). w.cosine) worked_values
unfolding worked_values cosine cosine_of horner abs add sub mul neg lt eq sum round size span climb odd units count_trailing_zeros of_fields of_bits to_bits
worked-cosines = refl

-- ---- the number 3.916766646233116 and its cosine
abbrev number : Float
number = of_bits binary64 0x400f_5589_c05d_1424

abbrev its_cosine : Float
its_cosine = cosine number

cosine-apart : denominator one < 2 ^ 48 * nat_abs (exact its_cosine *ℤ pos (one ^ 30 * factorial 31) -ℤ cosine_sum one (exact number))
unfolding denominator one exact count negative factorial cosine_sum alternating term cosine cosine_of horner abs add sub mul neg lt eq sum round size span climb odd units count_trailing_zeros of_fields of_bits
cosine-apart = lit< tt
