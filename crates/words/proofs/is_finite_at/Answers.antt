use Rattle.words.specs.Word.{value_at}
use Rattle.words.proofs.is_finite_at.Goals as goal

pub returns : goal.returns
unfolding value_at
returns c = rw (c.is_finite_bits.ensures, c.word.ensures)
