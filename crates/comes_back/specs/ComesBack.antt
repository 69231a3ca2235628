-- What is said of an element that a call answered: its values, handed in again at 1e-6, are accepted. Definitions only.
use Rattle.std.specs.Prelude.{◌≡◌, ℕ, List, Ok, Float}
use Rattle.checks.specs.Checks.{quaternion_norm_tolerance}
use Rattle.law.specs.Quaternion.{Quaternion}
use Rattle.linear.specs.Records.{quaternion}
use Rattle.manifold.specs.Group.{Group, try_from_param_slice}
use Rattle.so3.specs.Elements as So3Elements
use Rattle.so3.specs.Group as So3
use Rattle.so3.specs.declared.Element.{Element as So3Element}
use Rattle.sgal3.specs.Elements as Elements
use Rattle.sgal3.specs.Group as SGal3
use Rattle.sgal3.specs.declared.Element.{Element}
use Rattle.element_bytes.specs.Bytes.{element_bytes}
use Rattle.byte_chain.specs.Blocks.{check_block}
use Rattle.unit_norm.specs.SquaredNorm.{SquaredNormNearOne}

-- an element of a group, by its values and its quaternion: the squared norm is within 2 ^ -46 of 1, and the check at 1e-6 accepts the values, as that very
-- element
pub record ComesBack {G T J P D : Type 0} (g : Group G T J P D) (values : G → List Float) (rotation : G → Quaternion Float) (e : G) : Type 0 where
  pub near_one : SquaredNormNearOne (rotation e)
  pub accepted : try_from_param_slice g (values e) quaternion_norm_tolerance ≡ Ok e

-- of SO(3), and of SGal(3)
abbrev pub RotationComesBack : So3Element → Type 0
RotationComesBack e = ComesBack So3.group So3Elements.values So3Elements.element e

abbrev pub ElementComesBack : Element → Type 0
ElementComesBack e = ComesBack SGal3.group Elements.coeffs (λ (a : Element). quaternion a.rotation) e

-- 88 bytes that an entry wrote
pub record BytesComeBack (bytes : List ℕ) : Type 0 where
  pub element : Element
  pub are : bytes ≡ element_bytes element
  pub comes_back : ElementComesBack element
  pub accepted : check_block bytes quaternion_norm_tolerance ≡ Ok element
