-- The order of refusals is the scope's: what `earlier` picks from left to right is what the numbers of `tried` give, each over all blocks.
-- Assumes nothing.
use Prim.Native.Nat.{ℕ, ◌≤◌, ◌<◌}
use mathlib.Core.Path.{◌≡◌, refl, ◌∙◌}
use mathlib.Core.Bool.{Bool, true, false, cond}
use mathlib.Core.List.{List, [], ◌∷◌}
use borrow.Author.Tests.{ltb-true, ltb-false}
use lib.Dec.{eqb, ltb, leb-zero, leb-suc-zero, leb-suc-suc}
use Rattle.checks.specs.Refusals.{number, tried, place, earlier, first_with, in_turn, earliest}
use Rattle.checks.specs.declared.Refusal.{Refusal}
use Rattle.checks.specs.declared.Refusal.TheVariants.{Length, NotFinite, Tolerance, NotUnit, Turn, Overflow}

-- ---- what `earlier` picks
pub data Picked (r s : Refusal) : Type 0 where
  left : place tried (number r) ≤ place tried (number s) → earlier r s ≡ r → Picked r s
  right : place tried (number s) < place tried (number r) → earlier r s ≡ s → Picked r s

pub picked : (r s : Refusal) → Picked r s
unfolding earlier
picked r s = go (ltb (place tried (number s)) (place tried (number r))) refl
  where
    go : (b : Bool) → ltb (place tried (number s)) (place tried (number r)) ≡ b → Picked r s
    go true e = right (ltb-true _ _ e) (rw e)
    go false e = left (ltb-false _ _ e) (rw e)

-- ---- for any list of numbers, two refusals side by side give the same as the one of them that stands further up in that list
abbrev picked_by : List ℕ → Refusal → Refusal → Refusal
picked_by ks r s = cond (ltb (place ks (number s)) (place ks (number r))) s r

merged : (ks : List ℕ) (r s : Refusal) (rs : List Refusal) (d : Refusal) → in_turn ks (r ∷ s ∷ rs) d ≡ in_turn ks (picked_by ks r s ∷ rs) d
unfolding in_turn first_with place
merged [] r s rs d = refl
merged (k ∷ ks) r s rs d = go (eqb (number r) k) refl (eqb (number s) k) refl (merged ks r s rs d)
  where
    other : (b : Bool) → eqb (number r) k ≡ false → eqb (number s) k ≡ false → eqb (number (cond b s r)) k ≡ false
    other true e f = f
    other false e f = e

    go : (a : Bool) → eqb (number r) k ≡ a → (b : Bool) → eqb (number s) k ≡ b → in_turn ks (r ∷ s ∷ rs) d ≡ in_turn ks (picked_by ks r s ∷ rs) d
        → in_turn (k ∷ ks) (r ∷ s ∷ rs) d ≡ in_turn (k ∷ ks) (picked_by (k ∷ ks) r s ∷ rs) d
    go true e b f ih = rw (e, leb-suc-zero, e)
    go false e true f ih = rw (e, f, leb-suc-suc, leb-zero, f)
    go false e false f ih = rw (e, f, leb-suc-suc, other (ltb (place ks (number s)) (place ks (number r))) e f, ih)

one_left : (r : Refusal) (rs : List Refusal) (d : Refusal) → in_turn tried (r ∷ rs) d ≡ in_turn tried (earliest r rs ∷ []) d
unfolding earliest earlier
one_left r [] d = refl
one_left r (s ∷ rs) d = merged tried r s rs d ∙ one_left (earlier r s) rs d

-- the number of each refusal is tried
alone : (r d : Refusal) → in_turn tried (r ∷ []) d ≡ r
unfolding in_turn first_with tried number
alone (Length n m) d = refl
alone NotFinite d = refl
alone Tolerance d = refl
alone (NotUnit n) d = refl
alone Turn d = refl
alone Overflow d = refl

pub literal-order : (r : Refusal) (rs : List Refusal) (d : Refusal) → in_turn tried (r ∷ rs) d ≡ earliest r rs
literal-order r rs d = one_left r rs d ∙ alone (earliest r rs) d
