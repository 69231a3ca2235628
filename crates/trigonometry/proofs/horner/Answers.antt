use Rattle.std.proofs.Common.{◌∙◌, sym, ap}
use Rattle.std.proofs.lemmas.List.{nil_from_length}
use Rattle.trigonometry.specs.Sines.{horner}
use Rattle.trigonometry.proofs.Last.{horner-last}
use Rattle.trigonometry.proofs.horner.Goals as goal

pub loop-a-init : goal.loop-a-init
loop-a-init c = rw (c.into_iter-a-iterator.ensures.into_iter_gives, c.rev-a-items.ensures.source, c.iter.ensures.rest)

pub loop-a-preserved : goal.loop-a-preserved
loop-a-preserved c =
    sym (horner-last c.args.w c.loop-a.sum c.in-Some.a.now c.next.new.self.iter.rest.now)
    ∙ ap (horner c.args.w c.loop-a.sum) (sym c.in-Some.ensures.steps)
    ∙ c.loop-a.invariant

pub returns : goal.returns
unfolding horner
returns c =
    let rest = c.loop-a.a-iterator.iter.rest.now in
    sym (ap (horner c.args.w c.loop-a.sum) (nil_from_length rest c.in-None.ensures.steps.0)) ∙ c.loop-a.invariant
