-- What the reader of the command line returns.
use Rattle.std.specs.Prelude.{◌≡◌, List, [], Option, Some, None, String}
use Rattle.std.specs.declared.alloc.Global.{Global}
use Rattle.fixed_calc.specs.declared.command.Command.{Command}
use Rattle.fixed_calc.specs.declared.command.Command.TheVariants.{Script, Demo}
use Rattle.fixed_calc.specs.CommandLine.{IsDemo, IsNoCommand}

-- what the words request, if anything
abbrev pub IsCommandOf : List (String Global) → Option Command → Type 0
IsCommandOf words (Some Script) = words ≡ []
IsCommandOf words (Some (Demo n)) = IsDemo words n
IsCommandOf words None = IsNoCommand words
