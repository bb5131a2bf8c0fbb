use Rattle.std.proofs.Common.{◌+◌, ◌*◌, ◌^◌, pos}
use Rattle.fixed_word.specs.Format.{with_sign}
use Rattle.fixed_kernel.specs.Rounded.{rounded}
use Rattle.fixed_kernel.proofs.Alikes.{stands_alike}
use Rattle.fixed_float.proofs.incoming.outcome_of_parts.Goals as goal

pub returns : goal.returns
returns g c =
    let p = c.args.parts in
    stands_alike g.T.Valued.value g.T.RawWord.SIGNED g.T.Valued.BITS
    (rounded (with_sign p.below_zero (p.digits * 2 ^ (p.scale + c.args.frac))) (pos (2 ^ 1074)) c.args.rounding) (with_sign p.below_zero c.magnitude_of_parts.result)
    c.outcome_of_size.result g.met.T.RawWord.width_law c.magnitude_of_parts.ensures c.outcome_of_size.ensures
