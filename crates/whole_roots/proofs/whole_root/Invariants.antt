use Rattle.std.proofs.Common.{◌≡◌, ℕ, ◌*◌, ◌^◌, ◌<◌}
use Rattle.whole_roots.specs.Steps.{total, Ready}
use Rattle.whole_roots.specs.declared.Digits.{Digits}
use Rattle.whole_roots.proofs.whole_root.Given as goal

-- after i digits
pub record Inv (a i : ℕ) (s : Digits) : Type 0 where
  pub ready : Ready s
  pub small : s.root < 2 ^ i
  pub exact : total s ≡ a * 4 ^ i

abbrev pub invariant-loop : goal.invariant-loop
invariant-loop l = Inv l.fn.a l.counter l.s
