use Rattle.std.proofs.Common.{pos, refl}
use Rattle.std.specs.Prelude.{unsigned_abs}
use Rattle.std.proofs.lemmas.Bool.{iff_false}
use Rattle.fixed_natural.proofs.Moving.{stands}
use Rattle.fixed_natural.proofs.Powering.{below_zero, from_zero, pow_is}
use Rattle.fixed_natural.proofs.powers.pow_of.Goals as goal

pub returns-then-is_below_zero : goal.returns-then-is_below_zero
returns-then-is_below_zero g c =
    let b = g.T.Valued.value c.args.b in
    let m = c.magnitude-then-is_below_zero.result in
    let sign = c.is_below_zero.ensures.sign.0 c.if-is_below_zero.true in
    let value = below_zero b m sign c.magnitude-then-is_below_zero.ensures.magnitude in
    let p = pow_is c.magnitude.result (unsigned_abs (g.T.Valued.value c.args.a)) 0 m c.args.frac c.power_at.result b c.falling.result c.magnitude.ensures.magnitude value c.falling.ensures c.power_at.ensures.none c.power_at.ensures.some in
    (pos p.0, (p.0, refl, p.1), stands g.T.Valued.value g.T.RawWord.SIGNED g.T.Valued.BITS p.0 c.power_at.result _ g.met.T.RawWord.width_law p.2 c.outcome_of_magnitude.ensures)

pub returns-else-is_below_zero : goal.returns-else-is_below_zero
returns-else-is_below_zero g c =
    let b = g.T.Valued.value c.args.b in
    let m = c.magnitude-else-is_below_zero-2.result in
    let sign = iff_false c.is_below_zero.ensures.sign c.if-is_below_zero.false in
    let value = from_zero b m sign c.magnitude-else-is_below_zero-2.ensures.magnitude in
    let p = pow_is c.magnitude-else-is_below_zero.result (unsigned_abs (g.T.Valued.value c.args.a)) m 0 c.args.frac c.power_at-else-is_below_zero.result b c.rising.result c.magnitude-else-is_below_zero.ensures.magnitude value c.rising.ensures c.power_at-else-is_below_zero.ensures.none c.power_at-else-is_below_zero.ensures.some in
    (pos p.0, (p.0, refl, p.1), stands g.T.Valued.value g.T.RawWord.SIGNED g.T.Valued.BITS p.0 c.power_at-else-is_below_zero.result _ g.met.T.RawWord.width_law p.2 c.outcome_of_magnitude-else-is_below_zero.ensures)
