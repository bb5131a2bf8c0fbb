use Rattle.std.proofs.Common.{Some, ◌∙◌, ap, arith}
use Rattle.fixed_digits.proofs.Short.{has_number, has_no_number, begins_otherwise}
use Rattle.fixed_digits.proofs.numerals.natural_of.Goals as goal

pub returns-in_err-short_value_of : goal.returns-in_err-short_value_of
returns-in_err-short_value_of c =
    c.from_residual.ensures ∙ has_no_number c.args.token.now c.begins_as_decimal.result c.begins_as_decimal.ensures (c.in_err-short_value_of.ensures)

pub returns-in_ok-short_value_of : goal.returns-in_ok-short_value_of
returns-in_ok-short_value_of c =
    ap (λ n. Some n) c.from.ensures
    ∙ has_number c.args.token.now c.begins_as_decimal.result c.in_ok-short_value_of.field-0 c.begins_as_decimal.ensures c.if-begins_as_decimal.true (omega arith) (c.in_ok-short_value_of.ensures)

pub returns-else-begins_as_decimal : goal.returns-else-begins_as_decimal
returns-else-begins_as_decimal c = begins_otherwise c.args.token.now c.begins_as_decimal.result c.begins_as_decimal.ensures c.if-begins_as_decimal.false
