-- The whole numbers are such a ring. Assumes nothing.
use Prim.Native.Nat.{zero, suc}
use mathlib.Core.Path.{◌≡◌, sym, ap, ap₂, ◌∙◌}
use lib.IntN.{ℤ, pos, negsuc, one, suc_ℤ, pred_ℤ, neg_ℤ, ◌+ℤ◌, ◌-ℤ◌, ◌*ℤ◌, +ℤ_assoc, +ℤ_comm, +ℤ_idl, +ℤ_idr, +ℤ_invr, +ℤ-suc_ℤ, +ℤ-pred_ℤ, *ℤ-one, *ℤ_comm, zero-*ℤ, suc_ℤ-*ℤ, pred_ℤ-*ℤ}
use Rattle.ring.specs.Ring.{Ring}

step-up : (a b c : ℤ) → (a +ℤ b) *ℤ c ≡ a *ℤ c +ℤ b *ℤ c → (a +ℤ suc_ℤ b) *ℤ c ≡ a *ℤ c +ℤ suc_ℤ b *ℤ c
step-up a b c h =
    ap (λ t. t *ℤ c) (+ℤ-suc_ℤ a b) ∙ suc_ℤ-*ℤ (a +ℤ b) c ∙ ap (λ t. t +ℤ c) h ∙ +ℤ_assoc (a *ℤ c) (b *ℤ c) c ∙ ap (λ t. a *ℤ c +ℤ t) (sym (suc_ℤ-*ℤ b c))

step_down : (a b c : ℤ) → (a +ℤ b) *ℤ c ≡ a *ℤ c +ℤ b *ℤ c → (a +ℤ pred_ℤ b) *ℤ c ≡ a *ℤ c +ℤ pred_ℤ b *ℤ c
step_down a b c h =
    ap (λ t. t *ℤ c) (+ℤ-pred_ℤ a b) ∙ pred_ℤ-*ℤ (a +ℤ b) c ∙ ap (λ t. t -ℤ c) h ∙ +ℤ_assoc (a *ℤ c) (b *ℤ c) (neg_ℤ c) ∙ ap (λ t. a *ℤ c +ℤ t) (sym (pred_ℤ-*ℤ b c))

none : (a c : ℤ) → (a +ℤ pos 0) *ℤ c ≡ a *ℤ c +ℤ pos 0 *ℤ c
none a c = ap (λ t. t *ℤ c) (+ℤ_idr a) ∙ sym (ap (λ t. a *ℤ c +ℤ t) (zero-*ℤ c) ∙ +ℤ_idr (a *ℤ c))

pub +ℤ-*ℤ : (a b c : ℤ) → (a +ℤ b) *ℤ c ≡ a *ℤ c +ℤ b *ℤ c
+ℤ-*ℤ a (pos zero) c = none a c
+ℤ-*ℤ a (pos (suc n)) c = step-up a (pos n) c (+ℤ-*ℤ a (pos n) c)
+ℤ-*ℤ a (negsuc zero) c = step_down a (pos zero) c (none a c)
+ℤ-*ℤ a (negsuc (suc n)) c = step_down a (negsuc n) c (+ℤ-*ℤ a (negsuc n) c)

less-mul : (a b c : ℤ) → (a -ℤ b) *ℤ c ≡ a *ℤ c -ℤ b *ℤ c
less-mul a b c =
    +ℤ-*ℤ a (neg_ℤ b) c ∙ ap (λ t. a *ℤ c +ℤ t)
    (sym (+ℤ_idl (neg_ℤ b *ℤ c)) ∙ ap (λ t. t +ℤ neg_ℤ b *ℤ c) (sym (+ℤ_comm (neg_ℤ (b *ℤ c)) (b *ℤ c) ∙ +ℤ_invr (b *ℤ c)))
    ∙ +ℤ_assoc (neg_ℤ (b *ℤ c)) (b *ℤ c) (neg_ℤ b *ℤ c)
    ∙ ap (λ t. neg_ℤ (b *ℤ c) +ℤ t) (sym (+ℤ-*ℤ b (neg_ℤ b) c) ∙ ap (λ t. t *ℤ c) (+ℤ_invr b) ∙ zero-*ℤ c) ∙ +ℤ_idr (neg_ℤ (b *ℤ c)))

up : (a b c : ℤ) → (a *ℤ b) *ℤ c ≡ a *ℤ (b *ℤ c) → (suc_ℤ a *ℤ b) *ℤ c ≡ suc_ℤ a *ℤ (b *ℤ c)
up a b c h = ap (λ t. t *ℤ c) (suc_ℤ-*ℤ a b) ∙ +ℤ-*ℤ (a *ℤ b) b c ∙ ap (λ t. t +ℤ b *ℤ c) h ∙ sym (suc_ℤ-*ℤ a (b *ℤ c))

down : (a b c : ℤ) → (a *ℤ b) *ℤ c ≡ a *ℤ (b *ℤ c) → (pred_ℤ a *ℤ b) *ℤ c ≡ pred_ℤ a *ℤ (b *ℤ c)
down a b c h = ap (λ t. t *ℤ c) (pred_ℤ-*ℤ a b) ∙ less-mul (a *ℤ b) b c ∙ ap (λ t. t -ℤ b *ℤ c) h ∙ sym (pred_ℤ-*ℤ a (b *ℤ c))

nil : (b c : ℤ) → (pos 0 *ℤ b) *ℤ c ≡ pos 0 *ℤ (b *ℤ c)
nil b c = ap (λ t. t *ℤ c) (zero-*ℤ b) ∙ zero-*ℤ c ∙ sym (zero-*ℤ (b *ℤ c))

pub *ℤ-assoc : (a b c : ℤ) → (a *ℤ b) *ℤ c ≡ a *ℤ (b *ℤ c)
*ℤ-assoc (pos zero) b c = nil b c
*ℤ-assoc (pos (suc n)) b c = up (pos n) b c (*ℤ-assoc (pos n) b c)
*ℤ-assoc (negsuc zero) b c = down (pos zero) b c (nil b c)
*ℤ-assoc (negsuc (suc n)) b c = down (negsuc n) b c (*ℤ-assoc (negsuc n) b c)

abbrev pub integers : Ring ℤ
integers =
    record {
      zero = pos 0;
      one = one;
      add = ◌+ℤ◌;
      mul = ◌*ℤ◌;
      neg = neg_ℤ;
      add_assoc = +ℤ_assoc;
      add_comm = +ℤ_comm;
      add-zero = +ℤ_idr;
      add-neg = +ℤ_invr;
      mul_assoc = *ℤ-assoc;
      mul_comm = *ℤ_comm;
      mul-one = *ℤ-one;
      mul-add = λ a b c. *ℤ_comm a (b +ℤ c) ∙ +ℤ-*ℤ b c a ∙ ap₂ ◌+ℤ◌ (*ℤ_comm b a) (*ℤ_comm c a);
    }
