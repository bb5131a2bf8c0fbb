use Rattle.std.proofs.Common.{rules, ◌∙◌}
use Rattle.std.specs.Int.{w64}
use mir.Val.{SFits}
use Rattle.fixed_bits.proofs.ByteLists.{bytes_in_signed}
use Rattle.fixed_bits.proofs.bytes.I64BitWord.from_le_bytes.Goals as goal

pub returns : goal.returns
returns c =
    let f : SFits w64 c.from_unsigned.result = search rules in
    bytes_in_signed w64 c.from_unsigned.result _ f c.from_unsigned.ensures ∙ c.from_le_bytes.ensures
