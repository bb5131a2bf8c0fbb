use Rattle.std.proofs.Common.{◌∙◌}
use Rattle.fixed_float.proofs.Ends.{side_is}
use Rattle.fixed_float.proofs.incoming.outcome_of_size.Goals as goal

pub returns : goal.returns
returns g c = record {
  wrapped = c.residue.ensures;
  side = c.side_past.ensures ∙ side_is g.T.RawWord.SIGNED g.T.Valued.BITS c.args.below_zero c.args.magnitude c.magnitude.result (g.T.Valued.value c.end_on-end.result) c.end_on-end.ensures c.magnitude.ensures.magnitude;
}
