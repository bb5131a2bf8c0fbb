use Rattle.std.proofs.Common.{sym}
use Rattle.std.specs.Bool.{passes}
use Rattle.fixed_float.proofs.Rows.{apart_high, apart_low}
use Rattle.fixed_float.proofs.parts.parts_of.Goals as goal

pub returns-then-field-eq0 : goal.returns-then-field-eq0
returns-then-field-eq0 c = apart_low c.args.x (passes _ c.well_formed.0.1) (sym c.if-not-is_finite.ensures.value) c.if-field-eq0.true

pub returns-else-field-eq0 : goal.returns-else-field-eq0
returns-else-field-eq0 c = apart_high c.args.x (passes _ c.well_formed.0.1) (sym c.if-not-is_finite.ensures.value) c.if-field-eq0.false
