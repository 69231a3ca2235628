-- The worked half-angles, by computation; that of the NaN, where no excess is below 0, by induction. Assumes nothing.
use mathlib.Core.Path.{◌≡◌, refl, ap, ◌∙◌}
use mathlib.Core.List.{◌∷◌, [], ◌++◌, map, take}
use Prim.Native.Nat.{ℕ, zero, suc, ◌+◌, ◌-◌, ◌/◌}
use lib.Count.{count_trailing_zeros}
use lib.Ieee.{Float, nan, binary64, of_bits, of_int, to_bits, of_fields, add, sub, mul, div, neg, le, lt, eq, sum, round, size, span, climb, odd, units}
use Rattle.float.specs.Exact.{abs}
use Rattle.rounding.proofs.Laws.{zero64}
use Rattle.trigonometry.specs.Sines.{horner, sine_of, cosine_of}
use Rattle.half_angle.specs.HalfAngles.{excess, in_range, arctangent, guess, angle, last, halvings, halved, bisected, half_angle}
use Rattle.half_angle.specs.Worked.{Worked, worked_values}

nan-halved : (k high : ℕ) → halved k 0 high nan nan ≡ 0
unfolding halved excess mul sub add le lt eq of_bits
nan-halved zero high = refl
nan-halved (suc k) high = nan-halved k (0 + (high - 0) / 2)

nan-bisected : bisected nan nan ≡ 0
unfolding bisected
nan-bisected = nan-halved halvings last

angle-zero : angle 0 ≡ zero64
unfolding angle of_int of_bits mul round of_fields size span climb odd units
angle-zero = refl

half-angle-nan : half_angle nan nan ≡ zero64
unfolding half_angle guess arctangent excess abs mul sub add le lt eq
half-angle-nan = ap angle nan-bisected ∙ angle-zero

worked-half-angles : map (λ (w : Worked). to_bits binary64 (half_angle (of_bits binary64 w.sine) (of_bits binary64 w.cosine))) worked_values
    ≡ map (λ (w : Worked). w.half_angle) worked_values
unfolding worked_values half_angle guess arctangent in_range excess sine_of cosine_of horner abs add sub mul div neg le lt eq sum round size span climb odd units count_trailing_zeros of_fields of_bits to_bits
worked-half-angles = ap (λ (x : Float). map (λ (w : Worked). w.half_angle) (take 8 worked_values) ++ to_bits binary64 x ∷ []) half-angle-nan
