use Rattle.std.proofs.Common.{◌∙◌}
use Rattle.fixed_bits.proofs.ByteLists.{be_one}
use Rattle.fixed_bits.proofs.bytes.U8BitWord.to_be_bytes.Goals as goal

pub returns : goal.returns
returns c = c.to_be_bytes.ensures ∙ be_one c.args.self c.ranges.self.fits
