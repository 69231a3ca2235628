-- A chain, one block at a time. Assumes nothing.
use Prim.Native.Nat.{ℕ, suc, ◌/◌, ◌<◌}
use mathlib.Core.Path.{◌≡◌, ap, ◌∙◌}
use mathlib.Core.List.{List, ◌++◌}
use native.Mathlib.Omega.{arith}
use lib.ListN.{length, take, drop}
use lib.Seq.{take_at, drop_at}
use lib.ListN.{length-append}
use lib.Ieee.{Float}
use Rattle.sgal3.specs.Elements.{rep_size}
use Rattle.sgal3_calls.specs.Composition.{Answer, check_element, compose_answers, chain_from}

-- the whole blocks of s, composed with what is held
abbrev pub composed : Float → Answer → List Float → Answer
composed tolerance held s = chain_from tolerance held (length s / rep_size) s

one : (tolerance : Float) (held : Answer) (k : ℕ) (s block rest : List Float) → s ≡ block ++ rest → length block ≡ rep_size
    → chain_from tolerance held (suc k) s ≡ chain_from tolerance (compose_answers held (check_element block tolerance)) k rest
unfolding chain_from
one tolerance held k s block rest e h =
    let a : take rep_size s ≡ block = ap (take rep_size) e ∙ take_at block rest rep_size h in
    let b : drop rep_size s ≡ rest = ap (drop rep_size) e ∙ drop_at block rest rep_size h in
    rw (a, b)

pub next : (tolerance : Float) (held : Answer) (s block rest : List Float) → s ≡ block ++ rest → length block ≡ rep_size
    → composed tolerance held s ≡ composed tolerance (compose_answers held (check_element block tolerance)) rest
next tolerance held s block rest e h =
    let n : length s / rep_size ≡ suc (length rest / rep_size) = omega (arith, ap length e ∙ length-append block rest) in
    ap (λ (k : ℕ). chain_from tolerance held k s) n ∙ one tolerance held (length rest / rep_size) s block rest e h

pub end : (tolerance : Float) (held : Answer) (s : List Float) → length s < rep_size → composed tolerance held s ≡ held
unfolding chain_from
end tolerance held s h = let e : length s / rep_size ≡ 0 = omega arith in rw e
