use Rattle.fixed_word.specs.Format.{with_sign}
use Rattle.fixed_turns.proofs.FewTurns.{magnitude_few, sine_of}
use Rattle.fixed_turns.proofs.narrow.narrow_sine.Goals as goal

pub split_near-angle-requires-clause-few : goal.split_near-angle-requires-clause-few
split_near-angle-requires-clause-few g c =
    let m = c.magnitude in
    magnitude_few g.T.RawWord.SIGNED g.T.Valued.BITS c.args.frac m.result (g.T.Valued.value c.args.a) g.met.T.RawWord.width_law c.requires.few m.ensures.in_range m.ensures.magnitude

pub returns : goal.returns
returns g c =
    let angle = c.split_near-angle.result in
    let sine = c.sine_near.result in
    sine_of (g.T.Valued.value c.args.a) c.magnitude.result c.args.frac angle.quarter angle.rest c.either-half.result (with_sign sine.below_zero sine.magnitude) c.is_below_zero.result angle.below
    c.is_below_zero.ensures.sign c.magnitude.ensures.magnitude c.split_near-angle.ensures.value c.either-half.ensures c.sine_near.ensures
