use Rattle.std.proofs.Common.{refl, rules}
use Rattle.fixed_elementary.proofs.Turns.{one_more}
use Rattle.fixed_elementary.proofs.digits.find_digit.Goals as goal

pub returns-then-trial-whole-clause-value : goal.returns-then-trial-whole-clause-value
returns-then-trial-whole-clause-value c =
    one_more c.args.a c.args.part.root c.args.part.remainder c.args.part.rest c.divide_twice-first.result.digit c.divide_twice-first.result.rest c.divide_twice-second.result.digit c.divide_twice-second.result.rest _ c.divide_twice-first.ensures.value c.divide_twice-second.ensures.value (search rules) refl
