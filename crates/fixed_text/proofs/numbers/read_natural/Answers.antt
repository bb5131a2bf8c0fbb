use Rattle.std.proofs.Common.{◌∙◌}
use Rattle.fixed_text.proofs.Naturals.{held_natural}
use Rattle.fixed_text.proofs.numbers.read_natural.Goals as goal

pub returns : goal.returns
returns c = c.natural_of.ensures ∙ held_natural c.args.token.now
