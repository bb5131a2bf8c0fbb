use Rattle.std.proofs.Common.{ap, sym, ◌∙◌}
use Rattle.std.specs.Prelude.{Some}
use Rattle.std.specs.Bool.{passes}
use Rattle.fixed_float.proofs.WideLimits.{held_between, held_beside, wide_is, word_of_bits}
use Rattle.fixed_float.proofs.held.long_held.Goals as goal

pub bits_of_sums-requires-clause-medium : goal.bits_of_sums-requires-clause-medium
bits_of_sums-requires-clause-medium g c =
    let n = g.T.Valued.BITS in
    (held_between g.T.RawWord.SIGNED n (wide_is n g.met.T.RawWord.width_law c.requires.long) c.args.x (passes _ c.well_formed.0.1) c.args.frac c.requires.frac c.least_of-least.result c.beyond_of-beyond.result c.least_of-least.ensures c.beyond_of-beyond.ensures
    c.if-least-x.true).0

pub returns-then-least-x : goal.returns-then-least-x
returns-then-least-x g c =
    let s = g.T.RawWord.SIGNED in
    let n = g.T.Valued.BITS in
    let long = wide_is n g.met.T.RawWord.width_law c.requires.long in
    let b = c.bits_of_sums.ensures in
    let r = (held_between s n long c.args.x (passes _ c.well_formed.0.1) c.args.frac c.requires.frac c.least_of-least.result c.beyond_of-beyond.result c.least_of-least.ensures c.beyond_of-beyond.ensures
    c.if-least-x.true).1 in
    ap Some c.residue.ensures ∙ word_of_bits s n c.args.x c.args.frac c.bits_of_sums.result long b (r b.whole b.row)

pub returns-else-least-x : goal.returns-else-least-x
returns-else-least-x g c =
    let s = g.T.RawWord.SIGNED in
    let n = g.T.Valued.BITS in
    ap Some c.end_on.ensures
    ∙ sym (held_beside s n (wide_is n g.met.T.RawWord.width_law c.requires.long) c.args.x (passes _ c.well_formed.0.1) c.args.frac c.requires.frac c.least_of-least.result c.beyond_of-beyond.result c.least_of-least.ensures c.beyond_of-beyond.ensures
    c.requires.number c.if-least-x.false)
