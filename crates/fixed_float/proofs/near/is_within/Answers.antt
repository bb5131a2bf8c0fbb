use Rattle.std.specs.Bool.{passes}
use Rattle.fixed_float.proofs.WideLimits.{held_between, wide_is}
use Rattle.fixed_float.proofs.near.is_within.Goals as goal

pub returns : goal.returns
returns g c =
    let n = g.T.Valued.BITS in
    let at = held_between g.T.RawWord.SIGNED n (wide_is n g.met.T.RawWord.width_law c.requires.long) c.args.x (passes _ c.well_formed.0.1) c.args.frac c.requires.frac c.least_of-least.result c.beyond_of-beyond.result c.least_of-least.ensures c.beyond_of-beyond.ensures in
    record {
      medium = λ h. (at h).0;
      held = λ whole h e. (at h).1 whole e;
    }
