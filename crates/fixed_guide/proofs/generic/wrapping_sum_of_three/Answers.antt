use Rattle.std.proofs.Common.{◌+ℤ◌, subst, sym}
use Rattle.fixed_word.specs.Format.{IsWidth}
use Rattle.fixed_guide.proofs.Partials.{wrapped_sum}
use Rattle.fixed_guide.proofs.generic.wrapping_sum_of_three.Goals as goal

pub returns : goal.returns
returns g c =
    let number = g.N.Held.number in
    let width : IsWidth g.N.Number.BITS = subst IsWidth (sym g.met.N.Number.bits_law) g.met.N.Bits.RawWord.width_law in
    wrapped_sum g.N.Number.SIGNED g.N.Number.BITS (number c.args.a +ℤ number c.args.b) (number c.args.c) (number c.wrapping_add.result) (number c.wrapping_add-2.result) width c.wrapping_add.ensures c.wrapping_add-2.ensures
