-- The tokens of a rounding that a line names, if it names one.
use Rattle.std.specs.Prelude.{ℕ, List, map, Option, option_to_list}
use Rattle.fixed_word.specs.declared.rounding.Rounding.{Rounding}
use Rattle.fixed_script.specs.Names.{rounding_name}

abbrev pub rounding_tokens : Option Rounding → List (List ℕ)
rounding_tokens rounding = map rounding_name (option_to_list rounding)
