-- Each comparison with an infinity computes at each kind of value.
use Rattle.std.proofs.Common.{◌≡◌, refl, true, false}
use mathlib.Core.Bool.{◌&&◌}
use lib.Ieee.{Float, nan, inf, fin, of_bits, div, neg, lt}
use lib.Ieee.Scale.{finite}
use Rattle.float.proofs.is_finite.Goals as goal

both : (x : Float) → (lt (inf true) x && lt x (inf false)) ≡ finite x
unfolding lt
both nan = refl
both (inf true) = refl
both (inf false) = refl
both (fin s m e) = refl

pub returns : goal.returns
unfolding of_bits div neg
returns c = both c.args.x
