-- The round trips: an element to its 88 bytes and back to its values (`values-back`), and 88 bytes to their element and back (`block_back`). Assumes
-- nothing.
use Prim.Native.Nat.{ℕ, zero, suc, ◌+◌, ◌*◌, ◌≤◌, ◌<◌}
use mathlib.Core.Path.{◌≡◌, refl, ap, ◌∙◌}
use mathlib.Core.Bool.{true, not, false≢true}
use mathlib.Core.List.{List, [], ◌∷◌}
use native.Mathlib.Omega.{arith}
use lib.Dec.{T}
use lib.ListN.{length, get_or, take, drop}
use lib.Seq.{drop-drop, take-add}
use lib.Ieee.{Float, nan, inf, fin, binary64, fits, is_nan}
use lib.Ieee.Scale.{finite}
use Rattle.checks.specs.Checks.{all_finite}
use Rattle.checks.proofs.Finite.{both}
use Rattle.words.specs.Word.{word_at, value_at, bytes_of, word_bytes}
use Rattle.words.proofs.Bytes.{word_lt, bytes_back, value-back, pattern-back}
use Rattle.sgal3.specs.Elements.{coeffs, element_of, rep_size}
use Rattle.sgal3.specs.declared.Element.{Element}
use Rattle.element_bytes.specs.Bytes.{values_at, value_bytes, element_bytes, element_size}
use Rattle.element_bytes.specs.Steps.{bytes}
use Rattle.element_bytes.proofs.Values.{element-values}

-- ---- an element's bytes, read again
read : (e : Element)
    → values_at rep_size (element_bytes e) 0
    ≡ value_at (bytes e.translation.x) 0 ∷ value_at (bytes e.translation.y) 0 ∷ value_at (bytes e.translation.z) 0
    ∷ value_at (bytes e.rotation.w) 0 ∷ value_at (bytes e.rotation.x) 0 ∷ value_at (bytes e.rotation.y) 0 ∷ value_at (bytes e.rotation.z) 0
    ∷ value_at (bytes e.velocity.x) 0 ∷ value_at (bytes e.velocity.y) 0 ∷ value_at (bytes e.velocity.z) 0
    ∷ value_at (bytes e.time) 0 ∷ []
unfolding values_at value_at word_at element_bytes value_bytes word_bytes bytes_of coeffs
read e = refl

-- of an f64 the language says that it is a binary64
pub values-back : (e : Element) → ((i : ℕ) → T (fits binary64 (get_or (coeffs e) i nan))) → values_at rep_size (element_bytes e) 0 ≡ coeffs e
unfolding coeffs
values-back e f =
    rw (read e, value-back _ (f 0), value-back _ (f 1), value-back _ (f 2), value-back _ (f 3), value-back _ (f 4), value-back _ (f 5), value-back _ (f 6), value-back _ (f 7), value-back _ (f 8), value-back _ (f 9), value-back _ (f 10))

pub time-back : (e : Element) → T (fits binary64 e.time) → value_at (element_bytes e) 80 ≡ e.time
time-back e f = at-80 ∙ value-back e.time f
  where
    at-80 : value_at (element_bytes e) 80 ≡ value_at (bytes e.time) 0
    at-80 = unfold value_at word_at element_bytes value_bytes word_bytes bytes_of coeffs in refl

-- ---- a block's bytes, stored again
no_nan : (x : Float) → finite x ≡ true → T (not (is_nan x))
unfolding is_nan
no_nan nan h = absurd (false≢true h)
no_nan (inf s) h = absurd (false≢true h)
no_nan (fin s m e) h = tt

module _ (s : List ℕ) (byte : (i : ℕ) → get_or s i 0 < 256) where
  eight-back : (i : ℕ) → i + 8 ≤ length s → finite (value_at s i) ≡ true → bytes (value_at s i) ≡ take 8 (drop i s)
  unfolding value_at
  eight-back i h f =
      ap bytes_of (pattern-back (word_at s i) (word_lt s byte i h) (no_nan (value_at s i) f)) ∙ bytes_back s byte i h

  run-back : (n i : ℕ) → i + n * 8 ≤ length s → all_finite (values_at n s i) ≡ true → value_bytes (values_at n s i) ≡ take (n * 8) (drop i s)
  unfolding values_at all_finite value_bytes word_bytes
  run-back zero i h f = refl
  run-back (suc n) i h f =
      let a : suc n * 8 ≡ 8 + n * 8 = omega arith in
      let b = both (finite (value_at s i)) (all_finite (values_at n s (i + 8))) f in
      rw (a, take-add 8 (n * 8) (drop i s), drop-drop 8 i s, eight-back i (omega arith) b.0, run-back n (i + 8) (omega arith) b.1)

  -- of a slice of bytes the language says that each is below 256
  pub block_back : (at : ℕ) → at + element_size ≤ length s → all_finite (values_at rep_size s at) ≡ true → element_bytes (element_of (values_at rep_size s at)) ≡ take element_size (drop at s)
  unfolding element_bytes
  block_back at h f = ap value_bytes (element-values s at) ∙ run-back rep_size at h f
