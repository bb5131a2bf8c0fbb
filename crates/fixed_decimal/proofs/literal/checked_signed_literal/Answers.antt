use Rattle.std.proofs.Common.{◌∙◌, true, arith}
use Rattle.fixed_decimal.proofs.Literals.{read_within}
use Rattle.fixed_decimal.proofs.literal.checked_signed_literal.Goals as goal

pub returns-in-Ok : goal.returns-in-Ok
returns-in-Ok c = c.signed_within.ensures ∙ read_within true c.args.width c.args.frac c.args.text.now c.in-Ok.below_zero c.in-Ok.magnitude (omega (arith, c.if-frac-width.false)) c.requires c.in-Ok.ensures
