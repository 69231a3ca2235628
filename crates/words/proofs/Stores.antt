-- Runs of stores, one after the other, as one run. Assumes nothing.
use Prim.Native.Nat.{ℕ, suc, ◌+◌}
use mathlib.Core.Path.{◌≡◌, ap, ◌∙◌}
use mathlib.Core.List.{List, [], ◌∷◌, ◌++◌, append-nil}
use native.Mathlib.Nat.{zero-add}
use native.Mathlib.Omega.{arith}
use lib.ListN.{length, set, drop, drop_of_length-le}
use lib.Seq.{sets, sets-eq}

pub sets-append : (a b l : List ℕ) (i j : ℕ) → j ≡ i + length a → sets (sets l i a) j b ≡ sets l i (a ++ b)
sets-append [] b l i j e = let z : j ≡ i = omega arith in rw z
sets-append (x ∷ a) b l i j e = sets-append a b (set l i x) (suc i) j (omega arith)

pub join3 : (l a b c : List ℕ) (i j k : ℕ) → j ≡ i + length a → k ≡ j + length b → sets (sets (sets l i a) j b) k c ≡ sets l i (a ++ (b ++ c))
join3 l a b c i j k p q = sets-append b c (sets l i a) j k q ∙ sets-append a (b ++ c) l i j p

pub join4 : (l a b c d : List ℕ) (i j k m : ℕ) → j ≡ i + length a → k ≡ j + length b → m ≡ k + length c
    → sets (sets (sets (sets l i a) j b) k c) m d ≡ sets l i (a ++ (b ++ (c ++ d)))
join4 l a b c d i j k m p q r = join3 (sets l i a) b c d j k m q r ∙ sets-append a (b ++ (c ++ d)) l i j p

-- a run over a whole list
pub sets-all : (v l : List ℕ) → length l ≡ length v → sets l 0 v ≡ v
sets-all v l e =
    sets-eq v l 0 (omega arith)
    ∙ ap (λ (k : ℕ). v ++ drop k l) (zero-add (length v))
    ∙ ap (λ (k : List ℕ). v ++ k) (drop_of_length-le l {i = length v} (omega arith))
    ∙ append-nil v
