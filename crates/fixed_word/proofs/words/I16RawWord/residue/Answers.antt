use Rattle.std.specs.Int.{w16}
use Rattle.fixed_word.specs.Format.{with_sign}
use Rattle.fixed_word.proofs.Casts.{signed_bits}
use Rattle.fixed_word.proofs.words.I16RawWord.residue.Goals as goal

pub returns : goal.returns
returns c = signed_bits w16 (with_sign c.args.below_zero c.args.magnitude) c.cast_signed.result c.residue.result (record { sfits = c.cast_signed.type_inv }) c.cast_signed.ensures c.residue.type_inv c.residue.ensures
