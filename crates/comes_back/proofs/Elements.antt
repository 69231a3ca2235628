-- What the calls on values answer comes back: compose, inverse, normalize and between of both groups, and every partial element of a chain. Assumes nothing.
use Prim.Native.Nat.{ℕ, zero, suc, ◌+◌, ◌/◌}
use mathlib.Core.Path.{◌≡◌, refl, sym, ◌∙◌, subst}
use mathlib.Core.Bool.{true}
use mathlib.Core.List.{List, [], ◌∷◌}
use native.Mathlib.Omega.{arith}
use lib.Dec.{T}
use lib.ListN.{length, take, drop}
use lib.Seq.{get_or-take, get_or-drop}
use lib.Ieee.{Float, nan, binary64, fits, of_bits}
use lib.Ieee.Bits.{of_bits-fits}
use lib.Ieee.Fits.{nan-fits, add-fits, sub-fits, div-fits, neg-fits}
use Rattle.std.specs.Prelude.{Ok}
use Rattle.checks.specs.Checks.{check_unit_quaternion, both, quaternion_norm_tolerance, check_tolerance, all_finite}
use Rattle.checks.proofs.Passed.{same, followed, second-passed, passed-left, passed-right}
use Rattle.law.specs.Vector as Vector
use Rattle.law.specs.Quaternion as Quaternion
use Rattle.law.specs.Quaternion.{Quaternion}
use Rattle.law.specs.Rotation as Rotation
use Rattle.law.specs.Galilean as Galilean
use Rattle.linear.specs.Records.{quaternion}
use Rattle.manifold.specs.Answers.{answered}
use Rattle.manifold.proofs.Outcomes.{finished}
use Rattle.manifold_calls.specs.Calls as Calls
use Rattle.so3.specs.Elements as So3Elements
use Rattle.so3.specs.Group as So3
use Rattle.so3.specs.declared.Element.{Element as So3Element}
use Rattle.so3_calls.specs.Calls.{try_from_quaternion_wxyz}
use Rattle.sgal3.specs.Elements as Elements
use Rattle.sgal3.specs.Elements.{rep_size}
use Rattle.sgal3.specs.Group as SGal3
use Rattle.sgal3.specs.declared.Element.{Element}
use Rattle.sgal3_calls.specs.Composition as Composition
use Rattle.sgal3_calls.specs.Composition.{Answer, Binary64, check_element, element_answer}
use Rattle.sgal3_calls.proofs.Generic.{checked, answers, inverted}
use Rattle.unit_norm.proofs.Results.{Made, accepted, made-accepted, unit, unit-made, identity}
use Rattle.comes_back.specs.ComesBack.{RotationComesBack, ElementComesBack}
use Rattle.comes_back.proofs.AnyGroup as AnyGroup
use Rattle.comes_back.proofs.AnyGroup.{Binary64At, AllAccepted, comes-back}
use Rattle.comes_back.proofs.Groups.{rotations, elements}

pub at : (i : ℕ) (s : List Float) → Binary64 s → Binary64At s i
at i s f k l = f (i + k)

-- ---- SO(3)
pub rotation-compose-comes-back : (left right : List Float) (t : Float) (c : So3Element) → Binary64 left → Binary64 right
    → Calls.compose So3.group So3Elements.values left right t ≡ Ok c → RotationComesBack c
rotation-compose-comes-back left right t c l r = AnyGroup.compose-comes-back rotations left right t c (at 0 left l) (at 0 right r)

pub rotation-inverse-comes-back : (block : List Float) (t : Float) (c : So3Element) → Binary64 block
    → Calls.inverse So3.group So3Elements.values block t ≡ Ok c → RotationComesBack c
rotation-inverse-comes-back block t c b = AnyGroup.inverse-comes-back rotations block t c (at 0 block b)

pub rotation-normalize-comes-back : (block : List Float) (t : Float) (c : So3Element) → Binary64 block
    → Calls.normalize So3.group So3Elements.values block t ≡ Ok c → RotationComesBack c
rotation-normalize-comes-back block t c b = AnyGroup.normalize-comes-back rotations block t c (at 0 block b)

pub rotation-between-comes-back : (left right : List Float) (t : Float) (c : So3Element) → Binary64 left → Binary64 right
    → Calls.between So3.group So3Elements.values left right t ≡ Ok c → RotationComesBack c
rotation-between-comes-back left right t c l r = AnyGroup.between-comes-back rotations left right t c (at 0 left l) (at 0 right r)

-- of four values, which are normalised once they have passed
pub rotation-of-values-comes-back : (w x y z : Float) (t : Float) (c : So3Element) → T (fits binary64 w) → T (fits binary64 x) → T (fits binary64 y) → T (fits binary64 z)
    → try_from_quaternion_wxyz w x y z t ≡ Ok c → RotationComesBack c
unfolding try_from_quaternion_wxyz So3Elements.from_quaternion_wxyz
rotation-of-values-comes-back w x y z t c fw fx fy fz h =
    let q : Quaternion Float = record { w = w; x = x; y = y; z = z } in
    let f = followed (check_unit_quaternion (w ∷ x ∷ y ∷ z ∷ []) t) _ c h in
    AnyGroup.made-comes-back rotations (So3Elements.from_quaternion_wxyz w x y z) c f.after (unit-made (unit (accepted {q = q} t fw fx fy fz f.is)))

-- ---- SGal(3)
pub inverse-comes-back : (block : List Float) (t : Float) (c : Element) → Binary64 block → Composition.inverse block t ≡ Ok c → ElementComesBack c
inverse-comes-back block t c b h = AnyGroup.inverse-comes-back elements block t c (at 3 block b) (inverted block t ∙ h)

pub normalize-comes-back : (block : List Float) (t : Float) (c : Element) → Binary64 block
    → Calls.normalize SGal3.group Elements.coeffs block t ≡ Ok c → ElementComesBack c
normalize-comes-back block t c b = AnyGroup.normalize-comes-back elements block t c (at 3 block b)

pub between-comes-back : (left right : List Float) (t : Float) (c : Element) → Binary64 left → Binary64 right
    → Calls.between SGal3.group Elements.coeffs left right t ≡ Ok c → ElementComesBack c
between-comes-back left right t c l r = AnyGroup.between-comes-back elements left right t c (at 3 left l) (at 3 right r)

-- ---- every value of a result is a binary64, since an operation made it
infixr 50 ◌⨾◌
data AllBinary64 : List Float → Type 0 where
  none : AllBinary64 []
  ◌⨾◌ : {x : Float} {s : List Float} → T (fits binary64 x) → AllBinary64 s → AllBinary64 (x ∷ s)

each : {s : List Float} → AllBinary64 s → Binary64 s
each none i = nan-fits binary64
each (f ⨾ fs) zero = f
each (f ⨾ fs) (suc i) = each fs i

composed-binary64 : (a b : Element) → Binary64 (Elements.coeffs (Elements.compose a b))
unfolding Elements.coeffs Elements.compose Galilean.compose Galilean.compose_at Quaternion.mul Vector.add
composed-binary64 a b =
    each (
    add-fits binary64 _ _ ⨾ add-fits binary64 _ _ ⨾ add-fits binary64 _ _
    ⨾ sub-fits binary64 _ _ ⨾ sub-fits binary64 _ _ ⨾ add-fits binary64 _ _ ⨾ add-fits binary64 _ _
    ⨾ add-fits binary64 _ _ ⨾ add-fits binary64 _ _ ⨾ add-fits binary64 _ _
    ⨾ add-fits binary64 _ _ ⨾ none
    )

inverse-binary64 : (a : Element) → T (fits binary64 a.time) → Binary64 (Elements.coeffs (Elements.inverse a))
unfolding Elements.coeffs Elements.inverse Galilean.inverse Galilean.inverse_at Rotation.inverse Quaternion.conjugate Rotation.unit_quaternion Quaternion.normalize Quaternion.divide Quaternion.rotate Vector.neg Vector.add
inverse-binary64 a f =
    each (
    neg-fits binary64 _ (add-fits binary64 _ _) ⨾ neg-fits binary64 _ (add-fits binary64 _ _) ⨾ neg-fits binary64 _ (add-fits binary64 _ _)
    ⨾ div-fits binary64 _ _ ⨾ neg-fits binary64 _ (div-fits binary64 _ _) ⨾ neg-fits binary64 _ (div-fits binary64 _ _) ⨾ neg-fits binary64 _ (div-fits binary64 _ _)
    ⨾ neg-fits binary64 _ (add-fits binary64 _ _) ⨾ neg-fits binary64 _ (add-fits binary64 _ _) ⨾ neg-fits binary64 _ (add-fits binary64 _ _)
    ⨾ neg-fits binary64 a.time f ⨾ none
    )

-- ---- an element that an operation made. No more is asked of it than what every operation gives, so nothing grows with the number of blocks of a chain
pub record ElementMade (e : Element) : Type 0 where
  pub rotation : Made (quaternion e.rotation)
  pub finite : all_finite (Elements.coeffs e) ≡ true
  pub binary64 : Binary64 (Elements.coeffs e)

pub made-comes-back : {e : Element} → ElementMade e → ElementComesBack e
made-comes-back {e} M = comes-back elements e M.finite M.rotation

abbrev pub AllMade : Answer → Type 0
AllMade answer = (e : Element) → answer ≡ Ok e → ElementMade e

pub composed-made : (left right : Answer) → AllAccepted elements left → AllAccepted elements right → AllMade (Composition.compose_answers left right)
unfolding Calls.compose_answers
composed-made left right A B c h =
    let f = followed (both left right) _ c (answers left right ∙ h) in
    let a = f.answer.0 in
    let b = f.answer.1 in
    let D = finished Elements.coeffs (Elements.compose a b) c f.after in
    record {
      rotation = subst (λ (x : Element). Made (quaternion x.rotation)) D.is (elements.compose a b (A a (passed-left left right f.answer f.is)) (B b (passed-right left right f.answer f.is)));
      finite = D.finite;
      binary64 = subst (λ (x : Element). Binary64 (Elements.coeffs x)) D.is (composed-binary64 a b);
    }

pub inverse-made : (block : Answer) → AllAccepted elements block → ((a : Element) → block ≡ Ok a → T (fits binary64 a.time)) → AllMade (Composition.inverse_answer block)
unfolding Composition.inverse_answer element_answer answered
inverse-made block A F c h =
    let f = followed block _ c h in
    let a = f.answer in
    let D = finished Elements.coeffs (Elements.inverse a) c f.after in
    record {
      rotation = subst (λ (x : Element). Made (quaternion x.rotation)) D.is (elements.inverse a (A a f.is));
      finite = D.finite;
      binary64 = subst (λ (x : Element). Binary64 (Elements.coeffs x)) D.is (inverse-binary64 a (F a f.is));
    }

-- ---- compose, of blocks that are checked at two tolerances, or at one
pub block-accepted : (s : List Float) (t : Float) → Binary64At s 3 → AllAccepted elements (check_element s t)
block-accepted s t f e h = AnyGroup.block-accepted elements s t e f (checked s t ∙ h)

pub blocks-come-back : (left right : List Float) (s t : Float) (c : Element) → Binary64 left → Binary64 right
    → Composition.compose_answers (check_element left s) (check_element right t) ≡ Ok c → ElementComesBack c
blocks-come-back left right s t c l r h =
    made-comes-back (composed-made (check_element left s) (check_element right t) (block-accepted left s (at 3 left l)) (block-accepted right t (at 3 right r)) c h)

pub compose-comes-back : (left right : List Float) (t : Float) (c : Element) → Binary64 left → Binary64 right → Composition.compose left right t ≡ Ok c → ElementComesBack c
unfolding Composition.compose
compose-comes-back left right t = blocks-come-back left right t t

-- ---- the chain
from-made : (t : Float) (k : ℕ) (s : List Float) (held : Answer) → Binary64 s → AllMade held → AllMade (Composition.chain_from t held k s)
unfolding Composition.chain_from
from-made t zero s held f M = M
from-made t (suc k) s held f M =
    let block = take rep_size s in
    let later : Binary64 (drop rep_size s) = λ i. subst (λ (x : Float). T (fits binary64 x)) (sym (get_or-drop rep_size s i nan)) (f (rep_size + i)) in
    from-made t k (drop rep_size s) (Composition.compose_answers held (check_element block t)) later
    (composed-made held (check_element block t) (λ e h. made-accepted (M e h).rotation) (block-accepted block t first))
  where
    first : Binary64At (take rep_size s) 3
    first i l = subst (λ (x : Float). T (fits binary64 x)) (sym (get_or-take rep_size s (3 + i) nan (omega arith))) (f (3 + i))

pub identity-made : ElementMade Elements.identity
identity-made =
    record {
      rotation = unfold Elements.identity Galilean.identity in identity;
      finite = unfold Elements.identity Galilean.identity Quaternion.identity Vector.zero Elements.coeffs all_finite of_bits in refl;
      binary64 = values;
    }
  where
    values : Binary64 (Elements.coeffs Elements.identity)
    values =
        unfold Elements.identity Galilean.identity Quaternion.identity Vector.zero Elements.coeffs in each (
        of_bits-fits binary64 _ ⨾ of_bits-fits binary64 _ ⨾ of_bits-fits binary64 _
        ⨾ of_bits-fits binary64 _ ⨾ of_bits-fits binary64 _ ⨾ of_bits-fits binary64 _ ⨾ of_bits-fits binary64 _
        ⨾ of_bits-fits binary64 _ ⨾ of_bits-fits binary64 _ ⨾ of_bits-fits binary64 _
        ⨾ of_bits-fits binary64 _ ⨾ none
        )

starts-made : (t : Float) → AllMade (Composition.starts t)
unfolding Composition.starts
starts-made t c h = let f = followed (check_tolerance t) _ c h in subst ElementMade (same f.after) identity-made

pub partial-made : (t : Float) (n : ℕ) (s : List Float) → Binary64 s → AllMade (Composition.chain_blocks t n s)
unfolding Composition.chain_blocks
partial-made t n s f = from-made t n s (Composition.starts t) f (starts-made t)

-- the element after the first n blocks of s, for every n
pub partial-comes-back : (t : Float) (n : ℕ) (s : List Float) (c : Element) → Binary64 s → Composition.chain_blocks t n s ≡ Ok c → ElementComesBack c
partial-comes-back t n s c f h = made-comes-back (partial-made t n s f c h)

pub chain-comes-back : (s : List Float) (t : Float) (c : Element) → Binary64 s → Composition.chain s t ≡ Ok c → ElementComesBack c
unfolding Composition.chain
chain-comes-back s t c f h = partial-comes-back t (length s / rep_size) s c f (second-passed _ _ h)

-- ---- two elements that came back, composed at 1e-6: the answer is their composition, or 5
pub composed-again : (a b : Element) → ElementComesBack a → ElementComesBack b → Composition.compose (Elements.coeffs a) (Elements.coeffs b) quaternion_norm_tolerance ≡ element_answer (Elements.compose a b)
unfolding Composition.compose Composition.compose_answers both
composed-again a b A B = rw (← checked (Elements.coeffs a) quaternion_norm_tolerance, A.accepted, ← checked (Elements.coeffs b) quaternion_norm_tolerance, B.accepted) refl
