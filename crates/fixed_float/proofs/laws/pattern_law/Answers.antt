use Rattle.fixed_float.proofs.Fields.{pattern_infinite, pattern_nan, pattern_value}
use Rattle.fixed_float.proofs.laws.pattern_law.Goals as goal

pub returns-clause-number : goal.returns-clause-number
returns-clause-number c = pattern_value

pub returns-clause-infinite : goal.returns-clause-infinite
returns-clause-infinite c = pattern_infinite

pub returns-clause-not_a_number : goal.returns-clause-not_a_number
returns-clause-not_a_number c = pattern_nan
