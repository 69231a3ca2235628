use Rattle.byte_chain.proofs.Chains.{one_block}
use Rattle.handset.specs.Entries as Entries
use Rattle.handset.specs.Steps.{first_or}
use Rattle.handset.proofs.Outputs.{refused-output, refused-right, taken-output}
use Rattle.handset.proofs.sgal3_compose_in_place_within.Goals as goal

pub returns-then-held-ne-ELEMENT_SIZE : goal.returns-then-held-ne-ELEMENT_SIZE
unfolding Entries.compose_in_place Entries.compose
returns-then-held-ne-ELEMENT_SIZE c = refused-output _ _ c.if-held-ne-ELEMENT_SIZE.true

pub returns-then-step-ne-ELEMENT_SIZE : goal.returns-then-step-ne-ELEMENT_SIZE
unfolding Entries.compose_in_place Entries.compose
returns-then-step-ne-ELEMENT_SIZE c = refused-right _ _ _ _ c.if-held-ne-ELEMENT_SIZE.false c.if-step-ne-ELEMENT_SIZE.true

pub returns : goal.returns
unfolding Entries.compose_in_place Entries.compose first_or
returns c =
    let held = c.if-held-ne-ELEMENT_SIZE.false in
    taken-output _ _ _ _ _ held (one_block _ _ _ held c.if-step-ne-ELEMENT_SIZE.false) c.store_chain.ensures
