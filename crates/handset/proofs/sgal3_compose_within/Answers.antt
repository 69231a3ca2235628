use Rattle.handset.specs.Entries as Entries
use Rattle.handset.proofs.Outputs.{refused-output, refused-left, refused-right, taken-output, first_block}
use Rattle.byte_chain.proofs.Chains.{one_block}
use Rattle.handset.proofs.sgal3_compose_within.Goals as goal

pub returns-then-out-ne-ELEMENT_SIZE : goal.returns-then-out-ne-ELEMENT_SIZE
unfolding Entries.compose
returns-then-out-ne-ELEMENT_SIZE c = refused-output _ _ c.if-out-ne-ELEMENT_SIZE.true

pub returns-then-left-ne-ELEMENT_SIZE : goal.returns-then-left-ne-ELEMENT_SIZE
unfolding Entries.compose
returns-then-left-ne-ELEMENT_SIZE c = refused-left _ _ _ _ c.if-out-ne-ELEMENT_SIZE.false c.if-left-ne-ELEMENT_SIZE.true

pub returns-then-right-ne-ELEMENT_SIZE : goal.returns-then-right-ne-ELEMENT_SIZE
unfolding Entries.compose
returns-then-right-ne-ELEMENT_SIZE c = refused-right _ _ _ _ c.if-out-ne-ELEMENT_SIZE.false c.if-right-ne-ELEMENT_SIZE.true

pub returns : goal.returns
unfolding Entries.compose
returns c =
    let left = c.if-left-ne-ELEMENT_SIZE.false in
    taken-output _ _ _ _ _ c.if-out-ne-ELEMENT_SIZE.false (one_block _ _ _ left c.if-right-ne-ELEMENT_SIZE.false) (rw (first_block _ _ left) at c.store_chain.ensures)
