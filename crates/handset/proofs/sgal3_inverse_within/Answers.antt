use Rattle.handset.specs.Entries as Entries
use Rattle.handset.proofs.Outputs.{refused-output, refused-block, taken-output, inverse-block}
use Rattle.handset.proofs.sgal3_inverse_within.Goals as goal

pub returns-then-out-ne-ELEMENT_SIZE : goal.returns-then-out-ne-ELEMENT_SIZE
unfolding Entries.inverse
returns-then-out-ne-ELEMENT_SIZE c = refused-output _ _ c.if-out-ne-ELEMENT_SIZE.true

pub returns-then-block-ne-ELEMENT_SIZE : goal.returns-then-block-ne-ELEMENT_SIZE
unfolding Entries.inverse
returns-then-block-ne-ELEMENT_SIZE c = refused-block _ _ _ c.if-out-ne-ELEMENT_SIZE.false c.if-block-ne-ELEMENT_SIZE.true

pub returns : goal.returns
unfolding Entries.inverse
returns c = taken-output _ _ _ _ _ c.if-out-ne-ELEMENT_SIZE.false (inverse-block _ _ c.if-block-ne-ELEMENT_SIZE.false) c.store_inverse.ensures
