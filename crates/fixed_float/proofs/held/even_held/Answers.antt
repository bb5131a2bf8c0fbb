use Rattle.std.proofs.Common.{ap, refl, ◌∙◌, unsigned_abs}
use Rattle.std.specs.Prelude.{Some}
use Rattle.std.specs.Bool.{passes}
use Rattle.fixed_word.proofs.Wraps.{width_pos}
use Rattle.fixed_float.proofs.Limits.{ends_apart, held_by_sum, word_by_sum}
use Rattle.fixed_float.proofs.held.even_held.Goals as goal

pub clamped-held-requires : goal.clamped-held-requires
clamped-held-requires g c =
    let s = g.T.RawWord.SIGNED in
    let n = g.T.Valued.BITS in
    let value = g.T.Valued.value in
    ends_apart s n (width_pos n g.met.T.RawWord.width_law) c.requires.narrow c.args.x c.requires.number (passes _ c.well_formed.0.1) c.args.frac c.requires.frac c.magnitude.result c.magnitude-2.result
    (c.magnitude.ensures.magnitude ∙ ap (λ z. unsigned_abs (value z)) c.MIN.ensures ∙ ap unsigned_abs g.met.T.RawWord.min_law)
    (c.magnitude-2.ensures.magnitude ∙ ap (λ z. unsigned_abs (value z)) c.MAX.ensures ∙ ap unsigned_abs g.met.T.RawWord.max_law)
    c.held_f64-least.result c.held_f64-most.result _ c.held_f64-least.ensures c.held_f64-most.ensures refl

pub bits_of_sum-requires-clause-small : goal.bits_of_sum-requires-clause-small
bits_of_sum-requires-clause-small g c =
    let s = g.T.RawWord.SIGNED in
    let n = g.T.Valued.BITS in
    let value = g.T.Valued.value in
    (held_by_sum s n (width_pos n g.met.T.RawWord.width_law) c.requires.narrow c.args.x c.requires.number (passes _ c.well_formed.0.1) c.args.frac c.requires.frac c.magnitude.result c.magnitude-2.result
    (c.magnitude.ensures.magnitude ∙ ap (λ z. unsigned_abs (value z)) c.MIN.ensures ∙ ap unsigned_abs g.met.T.RawWord.min_law)
    (c.magnitude-2.ensures.magnitude ∙ ap (λ z. unsigned_abs (value z)) c.MAX.ensures ∙ ap unsigned_abs g.met.T.RawWord.max_law)
    c.held_f64-least.result c.held_f64-most.result c.clamped-held.result c.held_f64-least.ensures c.held_f64-most.ensures c.clamped-held.ensures).0

pub returns : goal.returns
returns g c =
    let s = g.T.RawWord.SIGNED in
    let n = g.T.Valued.BITS in
    let value = g.T.Valued.value in
    ap Some c.residue.ensures
    ∙ word_by_sum s n (width_pos n g.met.T.RawWord.width_law) c.requires.narrow c.args.x c.requires.number (passes _ c.well_formed.0.1) c.args.frac c.requires.frac c.magnitude.result c.magnitude-2.result
    (c.magnitude.ensures.magnitude ∙ ap (λ z. unsigned_abs (value z)) c.MIN.ensures ∙ ap unsigned_abs g.met.T.RawWord.min_law)
    (c.magnitude-2.ensures.magnitude ∙ ap (λ z. unsigned_abs (value z)) c.MAX.ensures ∙ ap unsigned_abs g.met.T.RawWord.max_law)
    c.held_f64-least.result c.held_f64-most.result c.clamped-held.result c.held_f64-least.ensures c.held_f64-most.ensures c.clamped-held.ensures c.bits_of_sum.result c.bits_of_sum.ensures.units
