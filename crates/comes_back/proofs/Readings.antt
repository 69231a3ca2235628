-- The half-angle of every rotation block that passes is as near as `HalfAngle` says, and so is that which log and minus take. Assumes nothing.
use mathlib.Core.Path.{◌≡◌, ◌∙◌, ap, sym, subst}
use mathlib.Core.List.{List}
use lib.Ieee.{Float}
use Rattle.std.specs.Prelude.{Ok}
use Rattle.checks.proofs.Passed.{followed, same}
use Rattle.law.specs.Quaternion.{Quaternion}
use Rattle.law.specs.Galilean as Galilean
use Rattle.linear.specs.Records.{quaternion}
use Rattle.manifold.specs.Group.{Group, validate_params, try_from_param_slice}
use Rattle.manifold.specs.Operations as Operations
use Rattle.so3.specs.Elements as So3Elements
use Rattle.so3.specs.Group as So3
use Rattle.so3.specs.declared.Element.{Element as So3Element}
use Rattle.sgal3.specs.Elements as Elements
use Rattle.sgal3.specs.Group as SGal3
use Rattle.sgal3.specs.declared.Element.{Element}
use Rattle.unit_norm.proofs.Results.{Accepted, made-accepted}
use Rattle.half_angle.proofs.Accuracy.{half-angle}
use Rattle.unit_norm.specs.HalfAngle.{half_sine, half_cosine}
use Rattle.unit_norm.proofs.HalfAngle.{unit-sine-cosine, normalized-sine-cosine}
use Rattle.so3_calls.specs.Calls.{half_angle}
use Rattle.sgal3_calls.specs.Composition.{Binary64}
use Rattle.comes_back.specs.Readings.{ReadAs, RotationReads, ElementReads, AllRead}
use Rattle.comes_back.proofs.AnyGroup.{Normalising, block-accepted, between-made, left-between-made}
use Rattle.comes_back.proofs.Groups.{rotations, elements}
use Rattle.comes_back.proofs.Elements.{at}

-- ---- a group of which every element with an accepted quaternion reads so
module _ {G V J P D : Type 0} {g : Group G V J P D} {values : G → List Float} {rotation : G → Quaternion Float} (R : Normalising g values rotation)
    (Reads : G → Type 0) (read : (a : G) → Accepted (rotation a) → Reads a) where
  all-read : AllRead g Reads
  all-read =
      record {
        block = λ s t a f h. read a (block-accepted R s t a (at g.quaternion_place s f) h);
        right_minus =
            λ left right s t a b l r h k. read (Operations.between g b a)
            (made-accepted (between-made R b a (block-accepted R right t b (at g.quaternion_place right r) k) (block-accepted R left s a (at g.quaternion_place left l) h)));
        left_minus =
            λ left right s t a b l r h k. read (Operations.left_between g a b)
            (made-accepted (left-between-made R a b (block-accepted R left s a (at g.quaternion_place left l) h) (block-accepted R right t b (at g.quaternion_place right r) k)));
      }

-- ---- SO(3) normalises once, SGal(3) twice
rotation-reads : (a : So3Element) → Accepted (So3Elements.element a) → RotationReads a
unfolding So3Elements.half_angle So3Elements.half_angle_of So3Elements.sin_angle_squared So3Elements.unit_quaternion half_sine half_cosine
rotation-reads a A = half-angle (unit-sine-cosine A)

element-reads : (e : Element) → Accepted (quaternion e.rotation) → ElementReads e
unfolding So3Elements.half_angle So3Elements.half_angle_of So3Elements.sin_angle_squared So3Elements.unit_quaternion Elements.rotation_impl Galilean.rotation_impl half_sine half_cosine
element-reads e A = half-angle (normalized-sine-cosine A)

pub rotations-read : AllRead So3.group RotationReads
rotations-read = all-read rotations RotationReads rotation-reads

pub elements-read : AllRead SGal3.group ElementReads
elements-read = all-read elements ElementReads element-reads

-- ---- what the call answers
pub half_angle-answered : (s : List Float) (t x : Float) → Binary64 s → half_angle s t ≡ Ok x → ReadAs (So3Elements.element (So3Elements.element_of s)) x
unfolding half_angle try_from_param_slice
half_angle-answered s t x b h =
    let r = followed (try_from_param_slice So3.group s t) (λ a. Ok (So3Elements.half_angle a)) x h in
    let v = followed (validate_params So3.group s t) (λ _. Ok (So3Elements.element_of s)) r.answer r.is in
    subst (ReadAs (So3Elements.element (So3Elements.element_of s))) (ap So3Elements.half_angle (same v.after) ∙ same r.after) (rotations-read.block s t (So3Elements.element_of s) b (r.is ∙ ap Ok (sym (same v.after))))
