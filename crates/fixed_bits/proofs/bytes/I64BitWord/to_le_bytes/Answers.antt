use Rattle.std.proofs.Common.{rules, ◌∙◌}
use Rattle.std.specs.Int.{w64}
use mir.Val.{SFits}
use Rattle.fixed_bits.proofs.ByteLists.{bytes_of_signed}
use Rattle.fixed_bits.proofs.bytes.I64BitWord.to_le_bytes.Goals as goal

pub returns : goal.returns
returns c =
    let f : SFits w64 c.args.self = search rules in
    c.to_le_bytes.ensures ∙ bytes_of_signed w64 c.args.self _ f c.to_unsigned.ensures.value
