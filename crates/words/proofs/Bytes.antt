-- A word and its bytes at any place of a slice: gathering and taking apart undo each other, for every word (`word_back`, at a place `word-back-at`) and
-- for every eight bytes (`bytes_back`, at a place `bytes-back-at`). No number is made here, so that includes the patterns of NaNs. Then a number to bytes
-- and back (`value-back`), and a word to a number and back, off the NaNs (`pattern-back`). Assumes nothing.
use Prim.Native.Nat.{ℕ, zero, suc, ◌+◌, ◌/◌, ◌<◌, ◌≤◌}
use mathlib.Core.Path.{◌≡◌, refl, ap, sym, ◌∙◌}
use mathlib.Core.Bool.{not}
use mathlib.Core.List.{List, [], ◌∷◌, ◌++◌}
use native.Mathlib.Omega.{arith}
use lib.Dec.{T, lit<}
use lib.ListN.{length, get_or, take, drop}
use borrow.Rule.Slice.PartMut.{put_mid}
use Rattle.std.specs.Int.{w64, to_le_bytes, from_le_bytes}
use Rattle.std.proofs.lemmas.List.{append_assoc, get_or-take, get_or-drop, get_or-append-add, get_or_append_left, take-append-drop, length-take-le, length-drop}
use Rattle.std.proofs.lemmas.Nat.{from_le_bytes-to_le_bytes_8, le_bytes_8}
use lib.Seq.{sets, sets-eq, drop-drop, take-add}
use lib.Ieee.{Float, binary64, fits, is_nan, of_bits, to_bits}
use lib.Ieee.Bits.{to_bits-lt, of_bits-to_bits, to_bits-of_bits}
use Rattle.words.specs.Word.{word_at, value_at, bytes_of}

-- what u64::from_le_bytes makes of the eight bytes at a place, and of those of a list
pub from_eight : (s : List ℕ) (at : ℕ)
    → from_le_bytes w64 (get_or s at 0 ∷ get_or s (at + 1) 0 ∷ get_or s (at + 2) 0 ∷ get_or s (at + 3) 0 ∷ get_or s (at + 4) 0 ∷ get_or s (at + 5) 0 ∷ get_or s (at + 6) 0 ∷ get_or s (at + 7) 0 ∷ [])
    ≡ word_at s at
unfolding word_at
from_eight s at = let first : at + 0 ≡ at = omega arith in rw first (omega arith)

from_list : (s : List ℕ) → word_at s 0 ≡ from_le_bytes w64 s
unfolding word_at
from_list s = omega arith

-- what u64::to_le_bytes makes of a word
to_eight : (n : ℕ) → to_le_bytes w64 n ≡ bytes_of n
unfolding bytes_of
to_eight n = let first : n / 1 ≡ n = omega arith in rw first refl

-- ---- bytes at a place, gathered
pub word_same : (s t : List ℕ) (i j : ℕ) → ((k : ℕ) → k < 8 → get_or s (i + k) 0 ≡ get_or t (j + k) 0) → word_at s i ≡ word_at t j
unfolding word_at
word_same s t i j h = rw (h 0 (lit< tt), h 1 (lit< tt), h 2 (lit< tt), h 3 (lit< tt), h 4 (lit< tt), h 5 (lit< tt), h 6 (lit< tt), h 7 (lit< tt))

-- ---- a word taken apart, and gathered again
pub word_back : (n : ℕ) → n < 0x1_0000_0000_0000_0000 → word_at (bytes_of n) 0 ≡ n
word_back n h = rw (← to_eight n) (from_list (to_le_bytes w64 n) ∙ from_le_bytes-to_le_bytes_8 n h)

module _ (n : ℕ) (s : List ℕ) (at : ℕ) (l : n < 0x1_0000_0000_0000_0000) (h : at + 8 ≤ length s) where
  abbrev v : List ℕ
  v = bytes_of n

  abbrev behind : List ℕ
  behind = drop (at + length v) s

  there : (k : ℕ) → k < 8 → get_or (sets s at v) (at + k) 0 ≡ get_or v (0 + k) 0
  there k q =
      let size : length v ≡ 8 = unfold bytes_of in refl in
      let place : at + k ≡ length (take at s) + (0 + k) = omega (arith, length-take-le at s (omega (arith, h))) in
      rw (sets-eq v s at (omega (arith, size, h)), place, append_assoc (take at s) v behind)
      (get_or-append-add (take at s) (v ++ behind) (0 + k) 0 ∙ get_or_append_left v behind 0 (0 + k) (omega (arith, size)))

  pub word-back-at : word_at (sets s at (bytes_of n)) at ≡ n
  word-back-at = word_same (sets s at v) v at 0 there ∙ word_back n l

-- ---- eight bytes gathered, and taken apart again
front_lt : (n : ℕ) (s : List ℕ) → ((i : ℕ) → get_or s i 0 < 256) → (i : ℕ) → get_or (take n s) i 0 < 256
front_lt zero s byte i = lit< tt
front_lt (suc n) [] byte i = lit< tt
front_lt (suc n) (x ∷ s) byte zero = byte 0
front_lt (suc n) (x ∷ s) byte (suc i) = front_lt n s (λ k. byte (suc k)) i

-- of a slice of bytes the language says that each is below 256
module _ (s : List ℕ) (byte : (i : ℕ) → get_or s i 0 < 256) (at : ℕ) (h : at + 8 ≤ length s) where
  abbrev eight : List ℕ
  eight = take 8 (drop at s)

  size : length eight ≡ 8
  size = length-take-le 8 (drop at s) (omega (arith, h, length-drop at s))

  same : (k : ℕ) → k < 8 → get_or s (at + k) 0 ≡ get_or eight (0 + k) 0
  same k l = let e : 0 + k ≡ k = omega arith in rw (e, get_or-take 8 (drop at s) k 0 l, get_or-drop at s k 0)

  small : (i : ℕ) → get_or eight i 0 < 256
  small = front_lt 8 (drop at s) (λ i. let e = get_or-drop at s i 0 in rw e (byte (at + i)))

  pub word_lt : word_at s at < 0x1_0000_0000_0000_0000
  unfolding word_at
  word_lt = omega (arith, byte (at + 0), byte (at + 1), byte (at + 2), byte (at + 3), byte (at + 4), byte (at + 5), byte (at + 6), byte (at + 7))

  pub bytes_back : bytes_of (word_at s at) ≡ take 8 (drop at s)
  bytes_back = sym (to_eight (word_at s at)) ∙ le_bytes_8 eight (word_at s at) size small (word_same s eight at 0 same ∙ from_list eight)

  pub bytes-back-at : sets s at (bytes_of (word_at s at)) ≡ s
  bytes-back-at =
      let e = bytes_back in
      rw e (sets-eq eight s at (omega (arith, h, size)) ∙ rw (size, ← take-add at 8 s) (take-append-drop (at + 8) s))

-- ---- numbers
pub value-back : (x : Float) → T (fits binary64 x) → value_at (bytes_of (to_bits binary64 x)) 0 ≡ x
unfolding value_at
value-back x h = ap (of_bits binary64) (word_back (to_bits binary64 x) (to_bits-lt binary64 x h)) ∙ of_bits-to_bits binary64 x h

pub pattern-back : (n : ℕ) → n < 0x1_0000_0000_0000_0000 → T (not (is_nan (of_bits binary64 n))) → to_bits binary64 (of_bits binary64 n) ≡ n
pattern-back n h t = to_bits-of_bits binary64 n h t

-- ---- what put_word does: a word's bytes put at a place, as a run of stores
pub stored : (out : List ℕ) (at n : ℕ) → at + 8 ≤ length out → put_mid at 8 out (to_le_bytes w64 n) ≡ sets out at (bytes_of n)
stored out at n h =
    let v = to_le_bytes w64 n in
    rw (drop-drop 8 at out, ← append_assoc (take at out) v (drop (at + 8) out)) (sym (sets-eq v out at h)) ∙ ap (sets out at) (to_eight n)
