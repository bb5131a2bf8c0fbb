use Rattle.std.proofs.Common.{ap, ◌∙◌, unsigned_abs}
use Rattle.std.specs.Bool.{passes}
use Rattle.fixed_word.proofs.Wraps.{width_pos}
use Rattle.fixed_float.proofs.Limits.{near_between}
use Rattle.fixed_float.proofs.near.is_between_ends.Goals as goal

pub returns : goal.returns
returns g c =
    let s = g.T.RawWord.SIGNED in
    let n = g.T.Valued.BITS in
    let value = g.T.Valued.value in
    let at = near_between s n (width_pos n g.met.T.RawWord.width_law) c.requires.narrow c.args.x (passes _ c.well_formed.0.1) c.args.frac c.requires.frac c.magnitude.result c.magnitude-2.result
    (c.magnitude.ensures.magnitude ∙ ap (λ z. unsigned_abs (value z)) c.MIN.ensures ∙ ap unsigned_abs g.met.T.RawWord.min_law)
    (c.magnitude-2.ensures.magnitude ∙ ap (λ z. unsigned_abs (value z)) c.MAX.ensures ∙ ap unsigned_abs g.met.T.RawWord.max_law)
    c.held_f64-least.result c.held_f64-most.result c.held_f64-least.ensures c.held_f64-most.ensures in
    record {
      small = λ h. (at h).0;
      held = λ whole h e. (at h).1 whole e;
    }
