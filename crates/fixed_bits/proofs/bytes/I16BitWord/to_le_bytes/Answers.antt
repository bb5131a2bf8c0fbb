use Rattle.std.proofs.Common.{rules, ◌∙◌}
use Rattle.std.specs.Int.{w16}
use mir.Val.{SFits}
use Rattle.fixed_bits.proofs.ByteLists.{bytes_of_signed}
use Rattle.fixed_bits.proofs.bytes.I16BitWord.to_le_bytes.Goals as goal

pub returns : goal.returns
returns c =
    let f : SFits w16 c.args.self = search rules in
    c.to_le_bytes.ensures ∙ bytes_of_signed w16 c.args.self _ f c.to_unsigned.ensures.value
