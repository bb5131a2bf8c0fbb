use Rattle.std.proofs.Common.{◌∙◌}
use Rattle.std.specs.Int.{w16}
use Rattle.fixed_bits.proofs.ByteLists.{le_word}
use Rattle.fixed_bits.proofs.bytes.U16BitWord.to_le_bytes.Goals as goal

pub returns : goal.returns
returns c = c.to_le_bytes.ensures ∙ le_word w16 c.args.self c.ranges.self.fits
