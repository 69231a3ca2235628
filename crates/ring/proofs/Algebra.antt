-- Consequences of the laws of a commutative ring that the solver needs. Assumes nothing.
use Prim.Native.Nat.{ℕ, zero, suc, ◌+◌, ◌*◌}
use native.Mathlib.Nat as Nat
use mathlib.Core.Path.{◌≡◌, sym, ap, ap₂, ◌∙◌}
use Rattle.ring.specs.Ring.{Ring}

module _ {A : Type 0} (𝓡 : Ring A) where
  infixl 60 ◌⊕◌
  infixl 70 ◌⊗◌
  open 𝓡 use {zero as 𝟘, one as 𝟙, add as ◌⊕◌, mul as ◌⊗◌, neg, add_assoc, add_comm, add-zero, add-neg, mul_assoc, mul_comm, mul-one, mul-add}

  pub swap_add : (a b c d : A) → (a ⊕ b) ⊕ (c ⊕ d) ≡ (a ⊕ c) ⊕ (b ⊕ d)
  swap_add a b c d =
      add_assoc a b (c ⊕ d)
      ∙ ap (λ t. a ⊕ t) (sym (add_assoc b c d) ∙ ap (λ t. t ⊕ d) (add_comm b c) ∙ add_assoc c b d)
      ∙ sym (add_assoc a c (b ⊕ d))

  pub swap_mul : (a b c d : A) → (a ⊗ b) ⊗ (c ⊗ d) ≡ (a ⊗ c) ⊗ (b ⊗ d)
  swap_mul a b c d =
      mul_assoc a b (c ⊗ d)
      ∙ ap (λ t. a ⊗ t) (sym (mul_assoc b c d) ∙ ap (λ t. t ⊗ d) (mul_comm b c) ∙ mul_assoc c b d)
      ∙ sym (mul_assoc a c (b ⊗ d))

  pub zero-add : (a : A) → 𝟘 ⊕ a ≡ a
  zero-add a = add_comm 𝟘 a ∙ add-zero a

  pub one-mul : (a : A) → 𝟙 ⊗ a ≡ a
  one-mul a = mul_comm 𝟙 a ∙ mul-one a

  pub add-mul : (a b c : A) → (a ⊕ b) ⊗ c ≡ a ⊗ c ⊕ b ⊗ c
  add-mul a b c = mul_comm (a ⊕ b) c ∙ mul-add c a b ∙ ap₂ (λ s t. s ⊕ t) (mul_comm c a) (mul_comm c b)

  pub idle : (a : A) → a ⊕ a ≡ a → a ≡ 𝟘
  idle a h = sym (add-zero a) ∙ ap (λ t. a ⊕ t) (sym (add-neg a)) ∙ sym (add_assoc a a (neg a)) ∙ ap (λ t. t ⊕ neg a) h ∙ add-neg a

  pub mul-zero : (a : A) → a ⊗ 𝟘 ≡ 𝟘
  mul-zero a = idle (a ⊗ 𝟘) (sym (mul-add a 𝟘 𝟘) ∙ ap (λ t. a ⊗ t) (add-zero 𝟘))

  pub zero-mul : (a : A) → 𝟘 ⊗ a ≡ 𝟘
  zero-mul a = mul_comm 𝟘 a ∙ mul-zero a

  pub neg-only : (a b : A) → a ⊕ b ≡ 𝟘 → b ≡ neg a
  neg-only a b h =
      sym (add-zero b) ∙ ap (λ t. b ⊕ t) (sym (add-neg a)) ∙ sym (add_assoc b a (neg a))
      ∙ ap (λ t. t ⊕ neg a) (add_comm b a ∙ h) ∙ zero-add (neg a)

  pub neg-neg : (a : A) → neg (neg a) ≡ a
  neg-neg a = sym (neg-only (neg a) a (add_comm (neg a) a ∙ add-neg a))

  pub neg-add : (a b : A) → neg (a ⊕ b) ≡ neg a ⊕ neg b
  neg-add a b =
      sym (neg-only (a ⊕ b) (neg a ⊕ neg b) (swap_add a b (neg a) (neg b) ∙ ap₂ (λ s t. s ⊕ t) (add-neg a) (add-neg b) ∙ add-zero 𝟘))

  pub neg-zero : neg 𝟘 ≡ 𝟘
  neg-zero = sym (neg-only 𝟘 𝟘 (add-zero 𝟘))

  pub mul-neg : (a b : A) → a ⊗ neg b ≡ neg (a ⊗ b)
  mul-neg a b = neg-only (a ⊗ b) (a ⊗ neg b) (sym (mul-add a b (neg b)) ∙ ap (λ t. a ⊗ t) (add-neg b) ∙ mul-zero a)

  pub neg-mul : (a b : A) → neg a ⊗ b ≡ neg (a ⊗ b)
  neg-mul a b = mul_comm (neg a) b ∙ mul-neg b a ∙ ap neg (mul_comm b a)

  pub equal : (a b : A) → a ⊕ neg b ≡ 𝟘 → a ≡ b
  equal a b h =
      sym (add-zero a) ∙ ap (λ t. a ⊕ t) (sym (add_comm (neg b) b ∙ add-neg b)) ∙ sym (add_assoc a (neg b) b) ∙ ap (λ t. t ⊕ b) h ∙ zero-add b

  pub less : (a b : A) → a ≡ b → a ⊕ neg b ≡ 𝟘
  less a b h = ap (λ t. t ⊕ neg b) h ∙ add-neg b

  -- a whole number in the ring
  abbrev pub nat : ℕ → A
  nat zero = 𝟘
  nat (suc n) = nat n ⊕ 𝟙

  pub nat-add : (m n : ℕ) → nat (m + n) ≡ nat m ⊕ nat n
  nat-add m zero = ap nat (Nat.add-zero m) ∙ sym (add-zero (nat m))
  nat-add m (suc n) = ap nat (Nat.add-suc m n) ∙ ap (λ t. t ⊕ 𝟙) (nat-add m n) ∙ add_assoc (nat m) (nat n) 𝟙

  pub nat-mul : (m n : ℕ) → nat (m * n) ≡ nat m ⊗ nat n
  nat-mul m zero = ap nat (Nat.mul-zero m) ∙ sym (mul-zero (nat m))
  nat-mul m (suc n) =
      ap nat (Nat.mul-suc m n) ∙ nat-add (m * n) m ∙ ap₂ (λ s t. s ⊕ t) (nat-mul m n) (sym (mul-one (nat m))) ∙ sym (mul-add (nat m) (nat n) 𝟙)

  -- p - n
  abbrev pub coef : ℕ → ℕ → A
  coef p n = nat p ⊕ neg (nat n)

  pub coef-add : (p n q m : ℕ) → coef (p + q) (n + m) ≡ coef p n ⊕ coef q m
  coef-add p n q m =
      ap₂ (λ s t. s ⊕ neg t) (nat-add p q) (nat-add n m) ∙ ap (λ t. nat p ⊕ nat q ⊕ t) (neg-add (nat n) (nat m))
      ∙ swap_add (nat p) (nat q) (neg (nat n)) (neg (nat m))

  product : (a b c d : A) → (a ⊗ c ⊕ b ⊗ d) ⊕ neg (a ⊗ d ⊕ b ⊗ c) ≡ (a ⊕ neg b) ⊗ (c ⊕ neg d)
  product a b c d =
      ap (λ t. a ⊗ c ⊕ b ⊗ d ⊕ t) (neg-add (a ⊗ d) (b ⊗ c))
      ∙ swap_add (a ⊗ c) (b ⊗ d) (neg (a ⊗ d)) (neg (b ⊗ c))
      ∙ ap₂ (λ s t. a ⊗ c ⊕ s ⊕ t) (sym (mul-neg a d))
      (add_comm (b ⊗ d) (neg (b ⊗ c)) ∙ ap₂ (λ s t. s ⊕ t) (sym (neg-mul b c)) (sym (neg-neg (b ⊗ d)) ∙ ap neg (sym (mul-neg b d)) ∙ sym (neg-mul b (neg d))))
      ∙ ap₂ (λ s t. s ⊕ t) (sym (mul-add a c (neg d))) (sym (mul-add (neg b) c (neg d)))
      ∙ sym (add-mul a (neg b) (c ⊕ neg d))

  pub coef-mul : (p n q m : ℕ) → coef (p * q + n * m) (p * m + n * q) ≡ coef p n ⊗ coef q m
  coef-mul p n q m =
      ap₂ (λ s t. s ⊕ neg t)
      (nat-add (p * q) (n * m) ∙ ap₂ (λ s t. s ⊕ t) (nat-mul p q) (nat-mul n m))
      (nat-add (p * m) (n * q) ∙ ap₂ (λ s t. s ⊕ t) (nat-mul p m) (nat-mul n q))
      ∙ product (nat p) (nat n) (nat q) (nat m)
