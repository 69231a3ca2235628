-- Horner's scheme takes the last coefficient of a list first. Assumes nothing.
use mathlib.Core.Path.{◌≡◌, refl, ap}
use mathlib.Core.List.{List, [], ◌∷◌, ◌++◌}
use lib.Ieee.{Float, binary64, add, mul}
use Rattle.trigonometry.specs.Sines.{horner}

pub horner-last : (w last a : Float) (cs : List Float) → horner w last (cs ++ a ∷ []) ≡ horner w (add binary64 a (mul binary64 w last)) cs
unfolding horner
horner-last w last a [] = refl
horner-last w last a (c ∷ cs) = ap (λ (h : Float). add binary64 c (mul binary64 w h)) (horner-last w last a cs)
