-- Compose, inverse, normalize and between of any group whose operations normalise a quaternion: what they answer comes back. Assumes nothing.
use Prim.Native.Nat.{ℕ, ◌+◌, ◌<◌}
use mathlib.Core.Path.{◌≡◌, refl, sym, ap, ◌∙◌, subst}
use mathlib.Core.Bool.{true}
use mathlib.Core.List.{List}
use native.Mathlib.Nat.{add-zero}
use borrow.Author.Tests.{eq-eqb}
use lib.Dec.{T, lit<}
use lib.ListN.{length, get_or, take, drop}
use lib.Seq.{get_or-take, get_or-drop}
use lib.Ieee.{Float, nan, binary64, fits}
use Rattle.std.specs.Prelude.{Result, Ok}
use Rattle.checks.specs.Checks.{passed, both, quaternion_norm_tolerance, all_finite, norm_of, check_unit_quaternion, check_length, check_values, check_param_block}
use Rattle.checks.specs.declared.Refusal.{Refusal}
use Rattle.checks.proofs.Passed.{same, followed, second-passed, passed-left, passed-right}
use Rattle.law.specs.Quaternion.{Quaternion}
use Rattle.linear.specs.Records.{quaternion}
use Rattle.manifold.specs.Answers.{quaternion_at, answered}
use Rattle.manifold.specs.Group.{Group, validate_params, try_from_param_slice}
use Rattle.manifold.specs.Operations as Operations
use Rattle.manifold.proofs.Outcomes.{finished}
use Rattle.manifold_calls.specs.Calls as Calls
use Rattle.unit_norm.proofs.Accepted.{coefficients}
use Rattle.unit_norm.proofs.Results.{Accepted, accepted, Made, made-accepted, made-near-one, made-passes}
use Rattle.comes_back.specs.ComesBack.{ComesBack}

-- the four values from place i on are binary64, as every f64 is
abbrev pub Binary64At : List Float → ℕ → Type 0
Binary64At s i = (k : ℕ) → k < 4 → T (fits binary64 (get_or s (i + k) nan))

-- the quaternion of a block is the one that the check takes the norm of
norm-at : (s : List Float) (i : ℕ) → norm_of (take 4 (drop i s)) ≡ norm_of (coefficients (quaternion (quaternion_at s i)))
unfolding norm_of quaternion_at
norm-at s i = rw (at 0 (lit< tt) ∙ ap (λ (n : ℕ). get_or s n nan) (add-zero i), at 1 (lit< tt), at 2 (lit< tt), at 3 (lit< tt)) refl
  where
    at : (k : ℕ) → k < 4 → get_or (take 4 (drop i s)) k nan ≡ get_or s (i + k) nan
    at k h = get_or-take 4 (drop i s) k nan h ∙ get_or-drop i s k nan

checked-at : (s : List Float) (i : ℕ) (t : Float) → check_unit_quaternion (take 4 (drop i s)) t ≡ check_unit_quaternion (coefficients (quaternion (quaternion_at s i))) t
unfolding check_unit_quaternion
checked-at s i t = rw (norm-at s i) refl

-- ---- what is needed of a group: how its blocks hold an element and its quaternion, and that its operations make quaternions near 1
pub record Normalising {G V J P D : Type 0} (g : Group G V J P D) (values : G → List Float) (rotation : G → Quaternion Float) : Type 0 where
  pub of_block : (s : List Float) → rotation (g.element_of s) ≡ quaternion (quaternion_at s g.quaternion_place)
  pub values-length : (e : G) → length (values e) ≡ g.rep_size
  pub values-back : (e : G) → g.element_of (values e) ≡ e
  pub compose : (a b : G) → Accepted (rotation a) → Accepted (rotation b) → Made (rotation (g.compose a b))
  pub inverse : (a : G) → Accepted (rotation a) → Made (rotation (g.inverse a))
  pub normalize : (a : G) → Accepted (rotation a) → Made (rotation (g.normalize a))

module _ {G V J P D : Type 0} {g : Group G V J P D} {values : G → List Float} {rotation : G → Quaternion Float} (R : Normalising g values rotation) where
  -- ---- a block that is accepted
  pub block-accepted : (s : List Float) (t : Float) (e : G) → Binary64At s g.quaternion_place → try_from_param_slice g s t ≡ Ok e → Accepted (rotation e)
  unfolding try_from_param_slice validate_params check_param_block quaternion_at
  block-accepted s t e f h =
      let k = followed (check_param_block s g.rep_size g.quaternion_place t) _ e h in
      let first = subst (λ (n : ℕ). T (fits binary64 (get_or s n nan))) (add-zero g.quaternion_place) (f 0 (lit< tt)) in
      subst (λ (a : G). Accepted (rotation a)) (same k.after)
      (subst Accepted (sym (R.of_block s))
      (accepted t first (f 1 (lit< tt)) (f 2 (lit< tt)) (f 3 (lit< tt)) (sym (checked-at s g.quaternion_place t) ∙ second-passed _ _ k.is)))

  -- ---- an element whose values are finite and whose quaternion was made by an operation
  pub comes-back : (e : G) → all_finite (values e) ≡ true → Made (rotation e) → ComesBack g values rotation e
  comes-back e f U = record { near_one = made-near-one U; accepted = again }
    where
      is : quaternion (quaternion_at (values e) g.quaternion_place) ≡ rotation e
      is = sym (R.of_block (values e)) ∙ ap rotation (R.values-back e)

      norm : check_unit_quaternion (take 4 (drop g.quaternion_place (values e))) quaternion_norm_tolerance ≡ passed
      norm = checked-at (values e) g.quaternion_place quaternion_norm_tolerance ∙ subst (λ (q : Quaternion Float). check_unit_quaternion (coefficients q) quaternion_norm_tolerance ≡ passed) (sym is) (made-passes U)

      again : try_from_param_slice g (values e) quaternion_norm_tolerance ≡ Ok e
      again = unfold try_from_param_slice validate_params check_param_block check_values check_length in rw (eq-eqb (length (values e)) g.rep_size (R.values-length e), f, norm, R.values-back e) refl

  -- what a call made and answered
  pub made-comes-back : (e c : G) → answered values e ≡ Ok c → Made (rotation e) → ComesBack g values rotation c
  made-comes-back e c h U = let f = finished values e c h in comes-back c f.finite (subst (λ (x : G). Made (rotation x)) f.is U)

  -- ---- between, and its mirror image: an inverse that was made on the way is no block, but its quaternion is near 1 all the same
  pub between-made : (a b : G) → Accepted (rotation a) → Accepted (rotation b) → Made (rotation (Operations.between g a b))
  unfolding Operations.between
  between-made a b A B = R.compose (g.inverse a) b (made-accepted (R.inverse a A)) B

  pub left-between-made : (a b : G) → Accepted (rotation a) → Accepted (rotation b) → Made (rotation (Operations.left_between g a b))
  unfolding Operations.left_between
  left-between-made a b A B = R.compose a (g.inverse b) A (made-accepted (R.inverse b B))

  -- ---- of answers whose elements are accepted, each at a tolerance of its own
  abbrev pub AllAccepted : Result G Refusal → Type 0
  AllAccepted r = (a : G) → r ≡ Ok a → Accepted (rotation a)

  pub two-come-back : (left right : Result G Refusal) (c : G) → AllAccepted left → AllAccepted right → Calls.compose_answers g values left right ≡ Ok c → ComesBack g values rotation c
  unfolding Calls.compose_answers
  two-come-back left right c A B h =
      let f = followed (both left right) _ c h in
      let p = f.answer in
      made-comes-back (g.compose p.0 p.1) c f.after (R.compose p.0 p.1 (A p.0 (passed-left left right p f.is)) (B p.1 (passed-right left right p f.is)))

  pub one-comes-back : (answer : Result G Refusal) (c : G) → AllAccepted answer → Calls.inverse_answer g values answer ≡ Ok c → ComesBack g values rotation c
  unfolding Calls.inverse_answer
  one-comes-back answer c A h =
      let f = followed answer _ c h in
      made-comes-back (g.inverse f.answer) c f.after (R.inverse f.answer (A f.answer f.is))

  -- ---- the calls on blocks
  pub compose-comes-back : (left right : List Float) (t : Float) (c : G) → Binary64At left g.quaternion_place → Binary64At right g.quaternion_place → Calls.compose g values left right t ≡ Ok c → ComesBack g values rotation c
  unfolding Calls.compose
  compose-comes-back left right t c l r h =
      two-come-back (try_from_param_slice g left t) (try_from_param_slice g right t) c (λ a e. block-accepted left t a l e) (λ b e. block-accepted right t b r e) h

  pub inverse-comes-back : (block : List Float) (t : Float) (c : G) → Binary64At block g.quaternion_place → Calls.inverse g values block t ≡ Ok c → ComesBack g values rotation c
  unfolding Calls.inverse
  inverse-comes-back block t c f h = one-comes-back (try_from_param_slice g block t) c (λ a e. block-accepted block t a f e) h

  pub normalize-comes-back : (block : List Float) (t : Float) (c : G) → Binary64At block g.quaternion_place → Calls.normalize g values block t ≡ Ok c → ComesBack g values rotation c
  unfolding Calls.normalize
  normalize-comes-back block t c b h =
      let f = followed (try_from_param_slice g block t) _ c h in
      made-comes-back (g.normalize f.answer) c f.after (R.normalize f.answer (block-accepted block t f.answer b f.is))

  pub between-comes-back : (left right : List Float) (t : Float) (c : G) → Binary64At left g.quaternion_place → Binary64At right g.quaternion_place → Calls.between g values left right t ≡ Ok c → ComesBack g values rotation c
  unfolding Calls.between
  between-comes-back left right t c l r h =
      let a = try_from_param_slice g left t in
      let b = try_from_param_slice g right t in
      let f = followed (both a b) _ c h in
      let p = f.answer in
      made-comes-back (Operations.between g p.0 p.1) c f.after
      (between-made p.0 p.1 (block-accepted left t p.0 l (passed-left a b p f.is)) (block-accepted right t p.1 r (passed-right a b p f.is)))
