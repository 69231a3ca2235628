-- The bytes that were put stand within the buffer.
use Rattle.std.proofs.Common.{rules}
use Rattle.outcomes.proofs.Numbers.{answer_fits}
use Rattle.conformance.proofs.answer_all.Goals as goal

pub slice_bounds-out-end : goal.slice_bounds-out-end
slice_bounds-out-end g c =
    let within = answer_fits _ _ _ _ _ c.in-Some-answer.is c.answer.ensures in
    search rules

pub slice_bounds-write_all-end : goal.slice_bounds-write_all-end
slice_bounds-write_all-end g c =
    let within = answer_fits _ _ _ _ _ c.in-Some-answer.is c.answer.ensures in
    search rules
