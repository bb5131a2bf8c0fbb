use Rattle.std.proofs.Common.{ap, ◌∙◌}
use Rattle.fixed_word.proofs.Wraps.{width_pos}
use Rattle.fixed_float.proofs.Ends.{held_is}
use Rattle.fixed_float.proofs.held.magnitude_held.Goals as goal

pub returns : goal.returns
returns g c =
    ap g.T.Valued.value c.unless.ensures
    ∙ held_is g.T.Valued.value g.T.RawWord.SIGNED g.T.Valued.BITS (width_pos g.T.Valued.BITS g.met.T.RawWord.width_law) c.end_on-end.result c.residue.result
    c.args.below_zero c.args.magnitude c.magnitude.result c.end_on-end.ensures c.residue.ensures c.magnitude.ensures.magnitude
