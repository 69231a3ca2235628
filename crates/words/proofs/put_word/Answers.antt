use Rattle.std.proofs.Common.{◌≡◌, ◌-◌, ◌+◌, arith, rules}
use Rattle.std.specs.Int.{w64, to_le_bytes}
use Rattle.words.proofs.Bytes.{stored}
use Rattle.words.proofs.put_word.Goals as goal

pub returns : goal.returns
returns c =
    let size : c.args.at + 8 - c.args.at ≡ 8 = omega arith in
    let bytes : c.copy_from_slice.new.self ≡ to_le_bytes w64 c.args.n = search rules in
    rw (size, bytes) (stored c.args.out.now c.args.at c.args.n c.requires)
