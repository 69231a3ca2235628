-- Exact arithmetic: any commutative ring, with a division and a root of which no more is asked than that one is neutral. Definitions only.
use Rattle.std.specs.Prelude.{◌≡◌}
use Rattle.ring.specs.Ring.{Ring}
use Rattle.law.specs.Arithmetic.{Arithmetic}

pub record Exact (A : Type 0) : Type 0 where
  pub ring : Ring A
  pub div : A → A → A
  pub root : A → A
  pub div-one : (a : A) → div a ring.one ≡ a
  pub root-one : root ring.one ≡ ring.one

abbrev pub exact : {A : Type 0} → Exact A → Arithmetic A
exact 𝓔 =
    record {
      zero = 𝓔.ring.zero;
      one = 𝓔.ring.one;
      two = 𝓔.ring.add 𝓔.ring.one 𝓔.ring.one;
      add = 𝓔.ring.add;
      sub = λ a b. 𝓔.ring.add a (𝓔.ring.neg b);
      mul = 𝓔.ring.mul;
      neg = 𝓔.ring.neg;
      div = 𝓔.div;
      root = 𝓔.root;
    }
