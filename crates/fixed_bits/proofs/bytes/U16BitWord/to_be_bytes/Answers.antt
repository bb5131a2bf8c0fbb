use Rattle.std.proofs.Common.{◌∙◌}
use Rattle.std.specs.Int.{w16}
use Rattle.fixed_bits.proofs.ByteLists.{be_word}
use Rattle.fixed_bits.proofs.bytes.U16BitWord.to_be_bytes.Goals as goal

pub returns : goal.returns
returns c = c.to_be_bytes.ensures ∙ be_word w16 c.args.self c.ranges.self.fits
