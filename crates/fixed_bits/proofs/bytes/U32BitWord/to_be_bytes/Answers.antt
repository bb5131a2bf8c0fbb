use Rattle.std.proofs.Common.{◌∙◌}
use Rattle.std.specs.Int.{w32}
use Rattle.fixed_bits.proofs.ByteLists.{be_word}
use Rattle.fixed_bits.proofs.bytes.U32BitWord.to_be_bytes.Goals as goal

pub returns : goal.returns
returns c = c.to_be_bytes.ensures ∙ be_word w32 c.args.self c.ranges.self.fits
