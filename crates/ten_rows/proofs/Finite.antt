-- Rows that are all finite, one at a time. Assumes nothing.
use Prim.Native.Nat.{ℕ, suc, ◌+◌, ◌≤◌, ◌<◌}
use mathlib.Core.Path.{◌≡◌, refl, ap, ◌∙◌}
use mathlib.Core.Bool.{true, false, ◌&&◌}
use mathlib.Core.List.{List, ◌∷◌}
use native.Mathlib.Numerals.{add-one}
use lib.ListN.{length, get_or, drop, drop_of_length-le}
use lib.Seq.{drop-cons}
use lib.Ieee.{Float}
use Rattle.checks.specs.Checks.{all_finite}
use Rattle.checks.proofs.Finite.{finite-parts}
use Rattle.ten_rows.specs.TenRows.{values}

row-values : (r : List Float) (rs : List (List Float)) → all_finite (values (r ∷ rs)) ≡ (all_finite r && all_finite (values rs))
unfolding values
row-values r rs = finite-parts r (values rs)

pub passes : (m : List (List Float)) (d : List Float) (i : ℕ) → i < length m → all_finite (get_or m i d) ≡ true
    → all_finite (values (drop i m)) ≡ all_finite (values (drop (i + 1) m))
passes m d i h e =
    ap (λ (k : List (List Float)). all_finite (values k)) (drop-cons m i d h)
    ∙ row-values (get_or m i d) (drop (suc i) m)
    ∙ rw (e, add-one) refl

pub stops : (m : List (List Float)) (d : List Float) (i : ℕ) → i < length m → all_finite (get_or m i d) ≡ false
    → all_finite (values (drop i m)) ≡ false
stops m d i h e =
    ap (λ (k : List (List Float)). all_finite (values k)) (drop-cons m i d h)
    ∙ row-values (get_or m i d) (drop (suc i) m)
    ∙ rw e refl

pub ends : (m : List (List Float)) (i : ℕ) → length m ≤ i → all_finite (values (drop i m)) ≡ true
unfolding values all_finite
ends m i h = rw (drop_of_length-le m h)
