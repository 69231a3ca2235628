-- The worked values of the square root, by computation. Assumes nothing.
use mathlib.Core.Path.{◌≡◌, refl}
use mathlib.Core.List.{map}
use lib.Ieee.{of_bits, to_bits, size, units}
use Rattle.float.specs.Exact.{count}
use Rattle.float.specs.Root.{isqrt, nearest_root, square_root, square_root_bits}
use Rattle.float.specs.Worked.{Worked, worked_values}

worked : map (λ (w : Worked). square_root_bits w.number) worked_values ≡ map (λ (w : Worked). w.root) worked_values
unfolding worked_values square_root_bits square_root nearest_root count isqrt units size of_bits to_bits
worked = refl
