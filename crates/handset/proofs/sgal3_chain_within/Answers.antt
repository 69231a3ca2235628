use mathlib.Core.Path.{sym, ◌∙◌}
use Rattle.handset.specs.Entries as Entries
use Rattle.handset.specs.Steps.{first_or}
use Rattle.handset.proofs.Outputs.{refused-output, refusal-output, taken-output}
use Rattle.byte_chain.proofs.Chains.{after-identity, refused-chain, whole-blocks}
use Rattle.handset.proofs.sgal3_chain_within.Goals as goal

pub returns-then-out-ne-ELEMENT_SIZE : goal.returns-then-out-ne-ELEMENT_SIZE
unfolding Entries.chain
returns-then-out-ne-ELEMENT_SIZE c = refused-output _ _ c.if-out-ne-ELEMENT_SIZE.true

pub returns-in-Err : goal.returns-in-Err
unfolding Entries.chain
returns-in-Err c =
    refusal-output _ _ _ _ c.if-out-ne-ELEMENT_SIZE.false
    (sym (refused-chain _ _ _ _ (sym c.check_chain_length.ensures ∙ c.in-Err.is)))
    c.number.ensures

pub returns : goal.returns
unfolding Entries.chain first_or
returns c =
    taken-output _ _ _ _ _ c.if-out-ne-ELEMENT_SIZE.false
    (after-identity _ _ _ ∙ sym (whole-blocks _ _ _ (sym c.check_chain_length.ensures ∙ c.in_default.is)))
    c.store_chain.ensures
