use Rattle.std.proofs.Common.{◌∙◌, pos, sym, ap, false}
use Rattle.std.specs.Option.{option_map}
use Rattle.fixed_decimal.proofs.Literals.{literal_fits}
use Rattle.fixed_decimal.proofs.literal.unsigned_literal.Goals as goal

pub returns-in-Some-clause-range : goal.returns-in-Some-clause-range
returns-in-Some-clause-range c = literal_fits false c.args.width c.args.frac c.args.text.now (pos c.in-Some.bits) (sym c.checked_unsigned_literal.ensures ∙ ap (option_map pos) c.in-Some.is)
