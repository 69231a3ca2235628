use Rattle.std.proofs.Common.{ap, ◌∙◌}
use lib.Ieee.{binary64, of_bits}
use lib.Ieee.Scale.{finite}
use Rattle.float.proofs.Fields.{finite-not-nan}
use Rattle.words.specs.Word.{value_at}
use Rattle.words.proofs.finite_value.Goals as goal

pub float_from_bits-result : goal.float_from_bits-result
unfolding value_at
float_from_bits-result c = finite-not-nan c.word.result (ap (λ (b : _). finite (of_bits binary64 b)) c.word.ensures ∙ c.requires.at_value)

pub returns : goal.returns
unfolding value_at
returns c = ap (of_bits binary64) c.word.ensures
