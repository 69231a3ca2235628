-- The scope's number and figures of each refusal, and which of two is tried first. Definitions only.
use Rattle.std.specs.Prelude.{ℕ, suc, cond, List, [], ◌∷◌, eqb, ltb}
use Rattle.checks.specs.declared.Figures.{Figures}
use Rattle.checks.specs.declared.Figures.TheVariants as Figures
use Rattle.checks.specs.declared.Refusal.{Refusal}
use Rattle.checks.specs.declared.Refusal.TheVariants.{Length, NotFinite, Tolerance, NotUnit, Turn, Overflow}

unfoldable pub number : Refusal → ℕ
number (Length expected actual) = 1
number NotFinite = 2
number (NotUnit norm) = 3
number Turn = 4
number Overflow = 5
number Tolerance = 7

-- the numbers, in the order in which they are tried
unfoldable pub tried : List ℕ
tried = 1 ∷ 2 ∷ 7 ∷ 3 ∷ 4 ∷ 5 ∷ []

-- how far down a list a number stands
unfoldable pub place : List ℕ → ℕ → ℕ
place [] n = 0
place (k ∷ ks) n = cond (eqb n k) 0 (suc (place ks n))

-- what a refusal carries besides its number
unfoldable pub figures : Refusal → Figures
figures (Length expected actual) = Figures.Lengths expected actual
figures NotFinite = Figures.None
figures (NotUnit norm) = Figures.Norm norm
figures Turn = Figures.None
figures Overflow = Figures.None
figures Tolerance = Figures.None

-- Each number is tried over all blocks from left to right before the next number of `tried`: the one that stands further up there, and at one number
-- the left block's. That this is the scope's order over any blocks is `literal-order` (proofs/Order.antt).
unfoldable pub earlier : Refusal → Refusal → Refusal
earlier left right = cond (ltb (place tried (number right)) (place tried (number left))) right left

-- ---- the scope's order, literally, over the refusals of any blocks from left to right
-- the first with the number k, or else d
unfoldable pub first_with : ℕ → List Refusal → Refusal → Refusal
first_with k [] d = d
first_with k (r ∷ rs) d = cond (eqb (number r) k) r (first_with k rs d)

-- the numbers of a list, one after the other, each over all blocks; or else d
unfoldable pub in_turn : List ℕ → List Refusal → Refusal → Refusal
in_turn [] rs d = d
in_turn (k ∷ ks) rs d = first_with k rs (in_turn ks rs d)

-- the same by `earlier`, from left to right
unfoldable pub earliest : Refusal → List Refusal → Refusal
earliest r [] = r
earliest r (s ∷ rs) = earliest (earlier r s) rs
