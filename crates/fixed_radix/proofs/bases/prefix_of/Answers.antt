use Rattle.std.proofs.Common.{refl}
use Rattle.std.specs.Fmt.{char_count}
use Rattle.fixed_radix.proofs.bases.prefix_of.Goals as goal

pub returns-in-Binary-clause-letters : goal.returns-in-Binary-clause-letters
unfolding char_count
returns-in-Binary-clause-letters c = refl

pub returns-in-Octal-clause-letters : goal.returns-in-Octal-clause-letters
unfolding char_count
returns-in-Octal-clause-letters c = refl

pub returns-in-LowerHex-clause-letters : goal.returns-in-LowerHex-clause-letters
unfolding char_count
returns-in-LowerHex-clause-letters c = refl
