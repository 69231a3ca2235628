-- SO(3) and SGal(3) are such groups. Assumes nothing.
use mathlib.Core.Path.{refl}
use Rattle.law.specs.Quaternion as Quaternion
use Rattle.law.specs.Quaternion.{Quaternion}
use Rattle.law.specs.Rotation as Rotation
use Rattle.law.specs.Galilean as Galilean
use Rattle.linear.specs.Records.{quaternion}
use Rattle.manifold.specs.Answers.{vector_at, quaternion_at}
use Rattle.so3.specs.Elements as So3Elements
use Rattle.so3.specs.Group as So3
use Rattle.sgal3.specs.Elements as Elements
use Rattle.sgal3.specs.Group as SGal3
use Rattle.sgal3.specs.declared.Element.{Element}
use Rattle.unit_norm.proofs.Results.{unit, unit-accepted, unit-made, product, conjugate}
use Rattle.comes_back.proofs.AnyGroup.{Normalising}

-- compose and inverse of SO(3) divide by the norm once, normalize twice
pub rotations : Normalising So3.group So3Elements.values So3Elements.element
unfolding So3Elements.element_of So3Elements.values So3Elements.compose So3Elements.inverse So3Elements.normalize Rotation.compose Rotation.inverse Rotation.normalize Rotation.unit_quaternion quaternion_at
rotations =
    record {
      of_block = λ s. refl;
      values-length = λ e. refl;
      values-back = λ e. refl;
      compose = λ a b A B. product (unit A) (unit B);
      inverse = λ a A. unit-made (conjugate (unit A));
      normalize = λ a A. unit-made (unit (unit-accepted (unit A)));
    }

-- and those of SGal(3) once more before that
pub elements : Normalising SGal3.group Elements.coeffs (λ (a : Element). quaternion a.rotation)
unfolding Elements.element_of Elements.coeffs Elements.compose Elements.inverse Elements.normalize Galilean.compose Galilean.compose_at Galilean.inverse Galilean.inverse_at Galilean.normalize Galilean.rotation_impl Rotation.inverse Rotation.normalize Rotation.unit_quaternion Quaternion.normalize Quaternion.mul quaternion_at vector_at
elements =
    record {
      of_block = λ s. refl;
      values-length = λ e. refl;
      values-back = λ e. refl;
      compose = λ a b A B. product (unit (unit-accepted (unit A))) (unit (unit-accepted (unit B)));
      inverse = λ a A. unit-made (conjugate (unit (unit-accepted (unit A))));
      normalize = λ a A. unit-made (unit (unit-accepted (unit (unit-accepted (unit A)))));
    }
