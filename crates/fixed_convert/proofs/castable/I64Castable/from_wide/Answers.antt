use Rattle.std.proofs.Common.{false, ap, refl, ◌∙◌}
use Rattle.std.specs.Int.{w64}
use Rattle.fixed_word.specs.Format.{wrap}
use Rattle.fixed_word.proofs.Casts.{signed_bits}
use Rattle.fixed_convert.proofs.Cuts.{read_back}
use Rattle.fixed_convert.proofs.castable.I64Castable.from_wide.Goals as goal

pub returns : goal.returns
returns c =
    let z = read_back c.args.number c.args.number c.ranges.number refl in
    signed_bits w64 c.args.number c.cast_signed.result c.from_wide.result (record { sfits = c.cast_signed.type_inv }) c.cast_signed.ensures c.from_wide.type_inv (c.from_wide.ensures ∙ ap (wrap false 64) z)
