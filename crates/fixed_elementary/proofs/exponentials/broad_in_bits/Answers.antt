use Rattle.std.proofs.Common.{◌≤◌, ◌<◌, ◌∙◌, arith, rules}
use Rattle.fixed_elementary.proofs.Raised.{in_word, past_word}
use Rattle.fixed_elementary.proofs.exponentials.broad_in_bits.Goals as goal

pub returns-then-whole-from : goal.returns-then-whole-from
returns-then-whole-from c =
    let less : c.args.whole < c.args.bits = search rules in
    in_word c.args.mantissa c.args.whole 126 c.args.bits less (omega (arith, c.requires.bits)) c.requires.most

pub returns-else-whole-from : goal.returns-else-whole-from
returns-else-whole-from c =
    let more : c.args.bits ≤ c.args.whole = search rules in
    c.power_of_two.ensures ∙ past_word c.args.mantissa c.args.whole 126 c.args.bits more c.requires.least
