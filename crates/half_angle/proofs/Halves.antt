-- One halving, and the end of them. Assumes nothing.
use mathlib.Core.Path.{◌≡◌, refl}
use mathlib.Core.Bool.{Bool, cond}
use Prim.Native.Nat.{ℕ, zero, suc, ◌+◌, ◌-◌, ◌/◌, ◌<◌}
use native.Mathlib.Nat.{lt_irrefl}
use native.Mathlib.Omega.{arith}
use lib.Ieee.{Float, le}
use Rattle.rounding.proofs.Laws.{zero64}
use Rattle.half_angle.specs.HalfAngles.{excess, angle, halved}

pub halved-next : (n low high : ℕ) (s c : Float) (b : Bool) → 0 < n → le (excess (angle (low + (high - low) / 2)) s c) zero64 ≡ b
    → halved n low high s c ≡ halved (n - 1) (cond b (low + (high - low) / 2) low) (cond b high (low + (high - low) / 2)) s c
unfolding halved
halved-next zero low high s c b p e = absurd (lt_irrefl 0 p)
halved-next (suc k) low high s c b p e = let less : suc k - 1 ≡ k = omega arith in rw (less, e) refl

pub halved-last : (n low high : ℕ) (s c : Float) → n ≡ 0 → halved n low high s c ≡ low
unfolding halved
halved-last n low high s c e = rw e refl
