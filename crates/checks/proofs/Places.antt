-- How far down a list of numbers one stands, number by number. Assumes nothing.
use Prim.Native.Nat.{ℕ, suc, ◌+◌, ◌≤◌, ◌<◌}
use mathlib.Core.Path.{◌≡◌, refl, sym}
use mathlib.Core.List.{List}
use native.Mathlib.Numerals.{add-one}
use borrow.Author.Tests.{eq-eqb, ne_eqb}
use lib.ListN.{length, get_or, drop, drop_of_length-le}
use lib.Seq.{drop-cons}
use Rattle.checks.specs.Refusals.{place}

pub found : (ks : List ℕ) (i n d : ℕ) → i < length ks → get_or ks i d ≡ n → place (drop i ks) n ≡ 0
unfolding place
found ks i n d h e = rw (drop-cons ks i d h, e, eq-eqb n n refl)

pub missed : (ks : List ℕ) (i n d : ℕ) → i < length ks → (get_or ks i d ≡ n → ⊥) → place (drop i ks) n ≡ suc (place (drop (i + 1) ks) n)
unfolding place
missed ks i n d h e = rw (add-one, drop-cons ks i d h, ne_eqb n (get_or ks i d) (λ q. e (sym q)))

pub none_left : (ks : List ℕ) (i n : ℕ) → length ks ≤ i → place (drop i ks) n ≡ 0
unfolding place
none_left ks i n h = rw (drop_of_length-le ks h)
