use Rattle.std.proofs.Common.{◌+◌, ◌*◌, ◌<◌, arith}
use Rattle.fixed_turns.proofs.Bisected.{shifted}
use Rattle.fixed_turns.proofs.directions.direction.Goals as goal

pub returns-else-frac-eq64-clause-least : goal.returns-else-frac-eq64-clause-least
returns-else-frac-eq64-clause-least c =
    let few : c.args.frac < 64 = omega (arith, c.requires.frac, c.if-frac-eq64.false) in
    omega (arith, shifted (2 * c.args.units + 1) c.args.frac few c.requires.most)

pub returns-else-frac-eq64-clause-most : goal.returns-else-frac-eq64-clause-most
returns-else-frac-eq64-clause-most c =
    let few : c.args.frac < 64 = omega (arith, c.requires.frac, c.if-frac-eq64.false) in
    omega (arith, shifted (2 * c.args.units + 1) c.args.frac few c.requires.most)
