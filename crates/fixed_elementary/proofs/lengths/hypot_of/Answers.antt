use Rattle.fixed_elementary.proofs.Rows.{hypot_is}
use Rattle.fixed_elementary.proofs.lengths.hypot_of.Goals as goal

pub returns : goal.returns
returns g c =
    let e = hypot_is (g.T.Valued.value c.args.a) (g.T.Valued.value c.args.b) _ _ _ c.magnitude.ensures.magnitude c.magnitude-2.ensures.magnitude c.length_of.ensures in
    rw e c.outcome_of_magnitude.ensures
