use Rattle.std.proofs.Common.{false, arith}
use Rattle.fixed_radix.proofs.Units.{coarse_down, coarse_up, fine, whole_small}
use Rattle.fixed_radix.proofs.places.in_units.Goals as goal

pub returns-then-shift-frac-clause-units : goal.returns-then-shift-frac-clause-units
returns-then-shift-frac-clause-units c below = fine below c.args.magnitude c.from-units.result c.args.frac c.args.shift (omega arith) c.from-units.ensures c.if-shift-frac.true c.requires.shift

pub returns-then-shift-frac-clause-whole : goal.returns-then-shift-frac-clause-whole
returns-then-shift-frac-clause-whole c = whole_small _ c.args.magnitude c.args.frac c.args.shift (fine false c.args.magnitude c.from-units.result c.args.frac c.args.shift (omega arith) c.from-units.ensures c.if-shift-frac.true c.requires.shift)

pub returns-then-rest-whole-clause-units : goal.returns-then-rest-whole-clause-units
returns-then-rest-whole-clause-units c below = coarse_up below c.args.magnitude c.from-units.result c.args.frac c.args.shift c.from-units.ensures c.if-shift-frac.false c.requires.frac c.if-rest-whole.true

pub returns-then-rest-whole-clause-whole : goal.returns-then-rest-whole-clause-whole
returns-then-rest-whole-clause-whole c = whole_small _ c.args.magnitude c.args.frac c.args.shift (coarse_up false c.args.magnitude c.from-units.result c.args.frac c.args.shift c.from-units.ensures c.if-shift-frac.false c.requires.frac c.if-rest-whole.true)

pub returns-else-rest-whole-clause-units : goal.returns-else-rest-whole-clause-units
returns-else-rest-whole-clause-units c below = coarse_down below c.args.magnitude c.from-units.result c.args.frac c.args.shift c.from-units.ensures c.if-shift-frac.false c.requires.frac c.if-rest-whole.false

pub returns-else-rest-whole-clause-whole : goal.returns-else-rest-whole-clause-whole
returns-else-rest-whole-clause-whole c = whole_small _ c.args.magnitude c.args.frac c.args.shift (coarse_down false c.args.magnitude c.from-units.result c.args.frac c.args.shift c.from-units.ensures c.if-shift-frac.false c.requires.frac c.if-rest-whole.false)
