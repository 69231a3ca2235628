use Rattle.words.specs.Word.{value_at}
use Rattle.words.proofs.value.Goals as goal

pub returns : goal.returns
unfolding value_at
returns c = cc
