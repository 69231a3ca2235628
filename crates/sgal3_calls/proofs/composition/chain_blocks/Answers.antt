use Rattle.std.proofs.Common.{sym, ap, ◌∙◌, arith}
use Rattle.std.specs.Slice.Iter.{chunks_exact_size}
use Rattle.sgal3_calls.specs.Composition as Composition
use Rattle.sgal3_calls.proofs.Blocks.{next, end}
use Rattle.sgal3_calls.proofs.Generic.{answers}
use Rattle.sgal3_calls.proofs.composition.chain_blocks.Goals as goal

pub loop-block-init : goal.loop-block-init
unfolding Composition.chain_blocks
loop-block-init c =
    let blocks = c.chunks_exact-block-items.ensures in
    let same = c.into_iter-block-iterator.ensures.into_iter_gives in (
      ap chunks_exact_size same ∙ blocks.size,
      rw (same, blocks.rest, c.starts-held.ensures),
    )

pub loop-block-preserved : goal.loop-block-preserved
loop-block-preserved c =
    let l = c.loop-block in
    let step = c.in-Some.ensures.steps in (
      step.0 ∙ l.invariant.0,
      l.invariant.1
          ∙ next c.args.tolerance l.held _ _ _ step.1.0 (step.1.1 ∙ l.invariant.0)
          ∙ rw (c.compose_answers-held.ensures, answers, c.check_element.ensures),
    )

pub returns : goal.returns
returns c =
    let l = c.loop-block in
    let step = c.in-None.ensures.steps in
    sym (l.invariant.1 ∙ end c.args.tolerance l.held _ (omega (arith, step.1.0, l.invariant.0)))
