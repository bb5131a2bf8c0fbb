use Rattle.std.proofs.Common.{◌*◌}
use Rattle.fixed_elementary.proofs.Rows.{recip_root_is}
use Rattle.fixed_elementary.proofs.reciprocals.recip_sqrt_of.Goals as goal

pub returns : goal.returns
returns g c =
    let e = recip_root_is (g.T.Valued.value c.args.a) _ (3 * c.args.frac) _ c.magnitude.ensures.magnitude c.requires.sign c.recip_root.ensures in
    rw e c.outcome_of_magnitude.ensures
