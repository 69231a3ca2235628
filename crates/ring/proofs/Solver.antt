-- Identities of a commutative ring, by computation: both sides are written as expressions, multiplied out to sums of monomials, and every
-- monomial of the difference has the coefficient zero. Assumes nothing.
use Prim.Native.Nat.{ℕ, zero, suc, ◌+◌, ◌*◌, compare, Ordering}
use mathlib.Core.Path.{◌≡◌, refl, sym, ap, ap₂, ◌∙◌}
use mathlib.Core.Bool.{Bool, true, false, ◌&&◌}
use mathlib.Core.List.{List, [], ◌∷◌}
use lib.ListN.{length}
use lib.Dec.{T, compare_is_eq, is_le, eqb, eqb→eq}
use lib.Ieee.Fits.{and_l, and_r}
use Rattle.ring.specs.Ring.{Ring}
use Rattle.ring.proofs.Algebra as Algebra

pub data Expr : Type 0 where
  var : ℕ → Expr
  zer one : Expr
  sum product : Expr → Expr → Expr
  minus : Expr → Expr

-- c * x_i * x_j * .., with c = plus - less and i ≤ j ≤ ..
pub record Term : Type 0 where
  pub plus : ℕ
  pub less : ℕ
  pub vars : List ℕ

abbrev pub Poly : Type 0
Poly = List Term

-- monomials
abbrev put : Bool → ℕ → ℕ → List ℕ → List ℕ → List ℕ
put true i j a r = i ∷ j ∷ a
put false i j a r = j ∷ r

abbrev insert : ℕ → List ℕ → List ℕ
insert i [] = i ∷ []
insert i (j ∷ a) = let r = insert i a in put (is_le (compare i j)) i j a r

abbrev joined : List ℕ → List ℕ → List ℕ
joined [] b = b
joined (i ∷ a) b = insert i (joined a b)

abbrev after : Ordering → Ordering → Ordering
after Ordering.lt r = Ordering.lt
after Ordering.eq r = r
after Ordering.gt r = Ordering.gt

abbrev order : List ℕ → List ℕ → Ordering
order [] [] = Ordering.eq
order [] (j ∷ b) = Ordering.gt
order (i ∷ a) [] = Ordering.lt
order (i ∷ a) (j ∷ b) = let r = order a b in after (compare i j) r

after-eq : (o r : Ordering) → T (compare_is_eq (after o r)) → T (compare_is_eq o) × T (compare_is_eq r)
after-eq Ordering.lt r t = absurd t
after-eq Ordering.eq r t = (tt, t)
after-eq Ordering.gt r t = absurd t

order-eq : (a b : List ℕ) → T (compare_is_eq (order a b)) → a ≡ b
order-eq [] [] t = refl
order-eq [] (j ∷ b) t = absurd t
order-eq (i ∷ a) [] t = absurd t
order-eq (i ∷ a) (j ∷ b) t =
    let h = after-eq (compare i j) (order a b) t in
    ap₂ {C = List ℕ} (λ k l. k ∷ l) (eqb→eq i j h.0) (order-eq a b h.1)

-- sums
abbrev both : Term → Term → Term
both t u = record { plus = t.plus + u.plus; less = t.less + u.less; vars = t.vars }

abbrev kept : Bool → Term → Poly → Poly
kept true t p = p
kept false t p = t ∷ p

abbrev step : Ordering → Term → Term → (Poly → Poly) → Poly → Poly → Poly
step Ordering.lt t u k q r = t ∷ k (u ∷ q)
step Ordering.eq t u k q r = kept (eqb (t.plus + u.plus) (t.less + u.less)) (both t u) (k q)
step Ordering.gt t u k q r = u ∷ r

abbrev place : Term → (Poly → Poly) → Poly → Poly
place t k [] = t ∷ k []
place t k (u ∷ q) = let r = place t k q in step (order t.vars u.vars) t u k q r

abbrev added : Poly → Poly → Poly
added [] q = q
added (t ∷ p) q = place t (λ r. added p r) q

abbrev times : Term → Term → Term
times t u =
    record {
      plus = t.plus * u.plus + t.less * u.less;
      less = t.plus * u.less + t.less * u.plus;
      vars = joined t.vars u.vars;
    }

abbrev scaled : Term → Poly → Poly
scaled t [] = []
scaled t (u ∷ q) = times t u ∷ scaled t q

-- the products by each term, then their sum in pairs, so that each passes few times through `added`
abbrev each : Poly → Poly → List Poly
each [] q = []
each (t ∷ p) q = scaled t q ∷ each p q

abbrev pairs : List Poly → List Poly
pairs [] = []
pairs (a ∷ []) = a ∷ []
pairs (a ∷ b ∷ ps) = added a b ∷ pairs ps

abbrev all_of : List Poly → Poly
all_of [] = []
all_of (a ∷ ps) = added a (all_of ps)

abbrev collect : ℕ → List Poly → Poly
collect zero ps = all_of ps
collect (suc n) [] = []
collect (suc n) (a ∷ []) = a
collect (suc n) (a ∷ b ∷ ps) = collect n (added a b ∷ pairs ps)

abbrev crossed : Poly → Poly → Poly
crossed p q = collect 16 (each p q)

-- by the terms of the shorter one: the cost is the square of their number
abbrev ordered : Bool → Poly → Poly → Poly
ordered true p q = crossed p q
ordered false p q = crossed q p

abbrev multiplied : Poly → Poly → Poly
multiplied p q = ordered (is_le (compare (length p) (length q))) p q

abbrev turned : Poly → Poly
turned [] = []
turned (t ∷ p) = record { plus = t.less; less = t.plus; vars = t.vars } ∷ turned p

unfoldable pub norm : Expr → Poly
norm (var i) = record { plus = 1; less = 0; vars = i ∷ [] } ∷ []
norm zer = []
norm one = record { plus = 1; less = 0; vars = [] } ∷ []
norm (sum a b) = added (norm a) (norm b)
norm (product a b) = multiplied (norm a) (norm b)
norm (minus a) = turned (norm a)

abbrev pub none : Poly → Bool
none [] = true
none (t ∷ p) = eqb t.plus t.less && none p

unfoldable pub same : Expr → Expr → Bool
unfolding norm
same l r = none (norm (sum l (minus r)))

-- the same where a ≡ b is given: l - r is c * (a - b)
unfoldable pub same_by : Expr → Expr → Expr → Expr → Expr → Bool
unfolding same
same_by a b c l r = same (sum l (minus r)) (product c (sum a (minus b)))

module _ {A : Type 0} (𝓡 : Ring A) (ρ : ℕ → A) where
  infixl 60 ◌⊕◌
  infixl 70 ◌⊗◌
  open 𝓡 use {zero as 𝟘, one as 𝟙, add as ◌⊕◌, mul as ◌⊗◌, neg, add_assoc, add_comm, add-zero, add-neg, mul_assoc, mul_comm, mul-one, mul-add}

  unfoldable pub eval : Expr → A
  eval (var i) = ρ i
  eval zer = 𝟘
  eval one = 𝟙
  eval (sum a b) = eval a ⊕ eval b
  eval (product a b) = eval a ⊗ eval b
  eval (minus a) = neg (eval a)

  abbrev mono : List ℕ → A
  mono [] = 𝟙
  mono (i ∷ a) = ρ i ⊗ mono a

  abbrev term : Term → A
  term t = Algebra.coef 𝓡 t.plus t.less ⊗ mono t.vars

  abbrev value : Poly → A
  value [] = 𝟘
  value (t ∷ p) = term t ⊕ value p

  -- a, b, c in turn: b may come first
  first-mul : (a b c : A) → a ⊗ (b ⊗ c) ≡ b ⊗ (a ⊗ c)
  first-mul a b c = sym (mul_assoc a b c) ∙ ap (λ t. t ⊗ c) (mul_comm a b) ∙ mul_assoc b a c

  first-add : (a b c : A) → a ⊕ (b ⊕ c) ≡ b ⊕ (a ⊕ c)
  first-add a b c = sym (add_assoc a b c) ∙ ap (λ t. t ⊕ c) (add_comm a b) ∙ add_assoc b a c

  put_is : (o : Bool) (i j : ℕ) (a r : List ℕ) → mono r ≡ ρ i ⊗ mono a → mono (put o i j a r) ≡ ρ i ⊗ (ρ j ⊗ mono a)
  put_is true i j a r h = refl
  put_is false i j a r h = ap (λ t. ρ j ⊗ t) h ∙ first-mul (ρ j) (ρ i) (mono a)

  insert-is : (i : ℕ) (a : List ℕ) → mono (insert i a) ≡ ρ i ⊗ mono a
  insert-is i [] = refl
  insert-is i (j ∷ a) = put_is (is_le (compare i j)) i j a (insert i a) (insert-is i a)

  joined_is : (a b : List ℕ) → mono (joined a b) ≡ mono a ⊗ mono b
  joined_is [] b = sym (Algebra.one-mul 𝓡 (mono b))
  joined_is (i ∷ a) b = insert-is i (joined a b) ∙ ap (λ t. ρ i ⊗ t) (joined_is a b) ∙ sym (mul_assoc (ρ i) (mono a) (mono b))

  both_is : (t u : Term) → t.vars ≡ u.vars → term (both t u) ≡ term t ⊕ term u
  both_is t u h =
      ap (λ c. c ⊗ mono t.vars) (Algebra.coef-add 𝓡 t.plus t.less u.plus u.less)
      ∙ Algebra.add-mul 𝓡 (Algebra.coef 𝓡 t.plus t.less) (Algebra.coef 𝓡 u.plus u.less) (mono t.vars)
      ∙ ap (λ a. term t ⊕ Algebra.coef 𝓡 u.plus u.less ⊗ mono a) h

  cancels : (t : Term) → T (eqb t.plus t.less) → term t ≡ 𝟘
  cancels t h =
      ap (λ n. Algebra.coef 𝓡 t.plus n ⊗ mono t.vars) (sym (eqb→eq t.plus t.less h))
      ∙ ap (λ c. c ⊗ mono t.vars) (add-neg (Algebra.nat 𝓡 t.plus))
      ∙ Algebra.zero-mul 𝓡 (mono t.vars)

  kept-is : (b : Bool) (t : Term) (p : Poly) → (T b → term t ≡ 𝟘) → value (kept b t p) ≡ term t ⊕ value p
  kept-is true t p h = sym (ap (λ s. s ⊕ value p) (h tt) ∙ Algebra.zero-add 𝓡 (value p))
  kept-is false t p h = refl

  step_is : (o : Ordering) (t u : Term) (k : Poly → Poly) (q r : Poly) (v : A)
      → (T (compare_is_eq o) → t.vars ≡ u.vars)
      → ((s : Poly) → value (k s) ≡ v ⊕ value s)
      → value r ≡ term t ⊕ (v ⊕ value q)
      → value (step o t u k q r) ≡ term t ⊕ (v ⊕ value (u ∷ q))
  step_is Ordering.lt t u k q r v e f h = ap (λ s. term t ⊕ s) (f (u ∷ q))
  step_is Ordering.eq t u k q r v e f h =
      kept-is (eqb (t.plus + u.plus) (t.less + u.less)) (both t u) (k q) (cancels (both t u))
      ∙ ap₂ (λ s w. s ⊕ w) (both_is t u (e tt)) (f q) ∙ add_assoc (term t) (term u) (v ⊕ value q) ∙ ap (λ s. term t ⊕ s) (first-add (term u) v (value q))
  step_is Ordering.gt t u k q r v e f h =
      ap (λ s. term u ⊕ s) h ∙ first-add (term u) (term t) (v ⊕ value q) ∙ ap (λ s. term t ⊕ s) (first-add (term u) v (value q))

  place_is : (t : Term) (k : Poly → Poly) (q : Poly) (v : A) → ((s : Poly) → value (k s) ≡ v ⊕ value s)
      → value (place t k q) ≡ term t ⊕ (v ⊕ value q)
  place_is t k [] v f = ap (λ s. term t ⊕ s) (f [])
  place_is t k (u ∷ q) v f =
      step_is (order t.vars u.vars) t u k q (place t k q) v (order-eq t.vars u.vars) f (place_is t k q v f)

  added_is : (p q : Poly) → value (added p q) ≡ value p ⊕ value q
  added_is [] q = sym (Algebra.zero-add 𝓡 (value q))
  added_is (t ∷ p) q =
      place_is t (λ r. added p r) q (value p) (λ s. added_is p s) ∙ sym (add_assoc (term t) (value p) (value q))

  times-is : (t u : Term) → term (times t u) ≡ term t ⊗ term u
  times-is t u =
      ap₂ (λ c m. c ⊗ m) (Algebra.coef-mul 𝓡 t.plus t.less u.plus u.less) (joined_is t.vars u.vars)
      ∙ Algebra.swap_mul 𝓡 (Algebra.coef 𝓡 t.plus t.less) (Algebra.coef 𝓡 u.plus u.less) (mono t.vars) (mono u.vars)

  scaled-is : (t : Term) (q : Poly) → value (scaled t q) ≡ term t ⊗ value q
  scaled-is t [] = sym (Algebra.mul-zero 𝓡 (term t))
  scaled-is t (u ∷ q) = ap₂ (λ a b. a ⊕ b) (times-is t u) (scaled-is t q) ∙ sym (mul-add (term t) (term u) (value q))

  abbrev total : List Poly → A
  total [] = 𝟘
  total (p ∷ ps) = value p ⊕ total ps

  pair_is : (a b : Poly) (x y : A) → x ≡ y → value (added a b) ⊕ x ≡ value a ⊕ (value b ⊕ y)
  pair_is a b x y h = ap₂ (λ s t. s ⊕ t) (added_is a b) h ∙ add_assoc (value a) (value b) y

  pairs_is : (ps : List Poly) → total (pairs ps) ≡ total ps
  pairs_is [] = refl
  pairs_is (a ∷ []) = refl
  pairs_is (a ∷ b ∷ ps) = pair_is a b (total (pairs ps)) (total ps) (pairs_is ps)

  all-is : (ps : List Poly) → value (all_of ps) ≡ total ps
  all-is [] = refl
  all-is (a ∷ ps) = added_is a (all_of ps) ∙ ap (λ s. value a ⊕ s) (all-is ps)

  collect-is : (n : ℕ) (ps : List Poly) → value (collect n ps) ≡ total ps
  collect-is zero ps = all-is ps
  collect-is (suc n) [] = refl
  collect-is (suc n) (a ∷ []) = sym (add-zero (value a))
  collect-is (suc n) (a ∷ b ∷ ps) = collect-is n (added a b ∷ pairs ps) ∙ pair_is a b (total (pairs ps)) (total ps) (pairs_is ps)

  each-is : (p q : Poly) → total (each p q) ≡ value p ⊗ value q
  each-is [] q = sym (Algebra.zero-mul 𝓡 (value q))
  each-is (t ∷ p) q = ap₂ (λ a b. a ⊕ b) (scaled-is t q) (each-is p q) ∙ sym (Algebra.add-mul 𝓡 (term t) (value p) (value q))

  crossed-is : (p q : Poly) → value (crossed p q) ≡ value p ⊗ value q
  crossed-is p q = collect-is 16 (each p q) ∙ each-is p q

  ordered-is : (b : Bool) (p q : Poly) → value (ordered b p q) ≡ value p ⊗ value q
  ordered-is true p q = crossed-is p q
  ordered-is false p q = crossed-is q p ∙ mul_comm (value q) (value p)

  turned-is : (p : Poly) → value (turned p) ≡ neg (value p)
  turned-is [] = sym (Algebra.neg-zero 𝓡)
  turned-is (t ∷ p) =
      ap₂ (λ a b. a ⊗ mono t.vars ⊕ b)
      (add_comm (Algebra.nat 𝓡 t.less) (neg (Algebra.nat 𝓡 t.plus))
      ∙ ap (λ s. neg (Algebra.nat 𝓡 t.plus) ⊕ s) (sym (Algebra.neg-neg 𝓡 (Algebra.nat 𝓡 t.less)))
      ∙ sym (Algebra.neg-add 𝓡 (Algebra.nat 𝓡 t.plus) (neg (Algebra.nat 𝓡 t.less))))
      (turned-is p)
      ∙ ap (λ s. s ⊕ neg (value p)) (Algebra.neg-mul 𝓡 (Algebra.coef 𝓡 t.plus t.less) (mono t.vars))
      ∙ sym (Algebra.neg-add 𝓡 (term t) (value p))

  -- the coefficient 1 - 0
  unit : 𝟘 ⊕ 𝟙 ⊕ neg 𝟘 ≡ 𝟙
  unit = ap₂ (λ a b. a ⊕ b) (Algebra.zero-add 𝓡 𝟙) (Algebra.neg-zero 𝓡) ∙ add-zero 𝟙

  single : (i : ℕ) → value (norm (var i)) ≡ ρ i
  unfolding norm
  single i = add-zero (term (record { plus = 1; less = 0; vars = i ∷ [] })) ∙ ap₂ (λ a b. a ⊗ b) unit (mul-one (ρ i)) ∙ Algebra.one-mul 𝓡 (ρ i)

  whole : value (norm one) ≡ 𝟙
  unfolding norm
  whole = add-zero (term (record { plus = 1; less = 0; vars = [] })) ∙ mul-one (𝟘 ⊕ 𝟙 ⊕ neg 𝟘) ∙ unit

  norm-is : (e : Expr) → value (norm e) ≡ eval e
  unfolding norm eval
  norm-is (var i) = single i
  norm-is zer = refl
  norm-is one = whole
  norm-is (sum a b) = added_is (norm a) (norm b) ∙ ap₂ (λ s t. s ⊕ t) (norm-is a) (norm-is b)
  norm-is (product a b) = ordered-is (is_le (compare (length (norm a)) (length (norm b)))) (norm a) (norm b) ∙ ap₂ (λ s t. s ⊗ t) (norm-is a) (norm-is b)
  norm-is (minus a) = turned-is (norm a) ∙ ap neg (norm-is a)

  none_is : (p : Poly) → T (none p) → value p ≡ 𝟘
  none_is [] h = refl
  none_is (t ∷ p) h =
      ap₂ (λ a b. a ⊕ b) (cancels t (and_l (eqb t.plus t.less) (none p) h)) (none_is p (and_r (eqb t.plus t.less) (none p) h)) ∙ add-zero 𝟘

  -- two expressions with one normal form are equal
  pub solve : (l r : Expr) → T (same l r) → eval l ≡ eval r
  unfolding same eval
  solve l r h = Algebra.equal 𝓡 (eval l) (eval r) (sym (norm-is (sum l (minus r))) ∙ none_is (norm (sum l (minus r))) h)

  pub solve-by : (a b c l r : Expr) → eval a ≡ eval b → T (same_by a b c l r) → eval l ≡ eval r
  unfolding eval same_by
  solve-by a b c l r e h =
      Algebra.equal 𝓡 (eval l) (eval r)
      (solve (sum l (minus r)) (product c (sum a (minus b))) h ∙ ap (λ s. eval c ⊗ s) (Algebra.less 𝓡 (eval a) (eval b) e) ∙ Algebra.mul-zero 𝓡 (eval c))
