-- An element's bytes, stored part by part. Assumes nothing.
use Prim.Native.Nat.{ℕ, ◌+◌}
use mathlib.Core.Path.{◌≡◌, refl}
use mathlib.Core.List.{List}
use native.Mathlib.Omega.{arith}
use lib.ListN.{length}
use lib.Seq.{sets}
use Rattle.linear.specs.declared.Vec3.{Vec3}
use Rattle.linear.specs.declared.Quaternion.{Quaternion}
use Rattle.words.specs.Word.{bytes_of, word_bytes}
use Rattle.words.proofs.Stores.{join3, join4, sets-all}
use Rattle.sgal3.specs.Elements.{coeffs}
use Rattle.sgal3.specs.declared.Element.{Element}
use Rattle.element_bytes.specs.Bytes.{value_bytes, element_size, element_bytes}
use Rattle.element_bytes.specs.Steps.{bytes, vector_bytes, quaternion_bytes}

pub vector-sets : (l : List ℕ) (i : ℕ) (a : Vec3) → sets (sets (sets l i (bytes a.x)) (i + 8) (bytes a.y)) (i + 16) (bytes a.z) ≡ sets l i (vector_bytes a)
unfolding vector_bytes bytes_of
vector-sets l i a = join3 l (bytes a.x) (bytes a.y) (bytes a.z) i (i + 8) (i + 16) refl (omega arith)

pub quaternion-sets : (l : List ℕ) (i : ℕ) (q : Quaternion)
    → sets (sets (sets (sets l i (bytes q.w)) (i + 8) (bytes q.x)) (i + 16) (bytes q.y)) (i + 24) (bytes q.z) ≡ sets l i (quaternion_bytes q)
unfolding quaternion_bytes bytes_of
quaternion-sets l i q = join4 l (bytes q.w) (bytes q.x) (bytes q.y) (bytes q.z) i (i + 8) (i + 16) (i + 24) refl (omega arith) (omega arith)

pub element-length : (e : Element) → length (element_bytes e) ≡ element_size
unfolding element_bytes value_bytes word_bytes bytes_of coeffs
element-length e = refl

pub element-sets : (l : List ℕ) (i : ℕ) (e : Element)
    → sets (sets (sets (sets l i (vector_bytes e.translation)) (i + 24) (quaternion_bytes e.rotation)) (i + 56) (vector_bytes e.velocity)) (i + 80) (bytes e.time)
    ≡ sets l i (element_bytes e)
unfolding element_bytes value_bytes word_bytes vector_bytes quaternion_bytes bytes_of coeffs
element-sets l i e =
    join4 l (vector_bytes e.translation) (quaternion_bytes e.rotation) (vector_bytes e.velocity) (bytes e.time) i (i + 24) (i + 56) (i + 80)
    refl (omega arith) (omega arith)

-- over a block of an element's length
pub element-over : (l : List ℕ) (e : Element) → length l ≡ element_size → sets l 0 (element_bytes e) ≡ element_bytes e
element-over l e h = sets-all (element_bytes e) l (omega (arith, element-length e))
