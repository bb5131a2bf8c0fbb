use Rattle.std.proofs.Common.{sym, ap, ◌∙◌}
use Rattle.std.specs.Option.{option_map}
use Rattle.fixed_text.specs.Decimals.{decimal_of}
use Rattle.fixed_text.specs.Numbers.{only_number}
use Rattle.fixed_text.proofs.Only.{nothing_only, only_of_rest}
use Rattle.fixed_text.proofs.numbers.read_only_number.Goals as goal

pub returns-in-Some : goal.returns-in-Some
returns-in-Some c =
    c.read_decimal.ensures.held ∙ ap (option_map decimal_of) (sym (only_of_rest _) ∙ ap only_number c.in-Some.ensures)

pub returns-in-None : goal.returns-in-None
returns-in-None c = ap (option_map decimal_of) (sym nothing_only ∙ ap only_number c.in-None.ensures)
