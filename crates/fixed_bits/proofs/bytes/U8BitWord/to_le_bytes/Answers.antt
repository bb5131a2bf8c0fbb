use Rattle.std.proofs.Common.{◌∙◌}
use Rattle.fixed_bits.proofs.ByteLists.{le_one}
use Rattle.fixed_bits.proofs.bytes.U8BitWord.to_le_bytes.Goals as goal

pub returns : goal.returns
returns c = c.to_le_bytes.ensures ∙ le_one c.args.self c.ranges.self.fits
