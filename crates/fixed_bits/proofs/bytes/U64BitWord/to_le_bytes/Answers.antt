use Rattle.std.proofs.Common.{◌∙◌}
use Rattle.std.specs.Int.{w64}
use Rattle.fixed_bits.proofs.ByteLists.{le_word}
use Rattle.fixed_bits.proofs.bytes.U64BitWord.to_le_bytes.Goals as goal

pub returns : goal.returns
returns c = c.to_le_bytes.ensures ∙ le_word w64 c.args.self c.ranges.self.fits
