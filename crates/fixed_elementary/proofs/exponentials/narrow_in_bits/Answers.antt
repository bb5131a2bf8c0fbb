use Rattle.std.proofs.Common.{◌≡◌, ◌≤◌, ◌<◌, ◌*◌, ◌%◌, ◌^◌, ◌∙◌, arith, rules}
use Rattle.std.proofs.Math.Nat.{pow-le-pow_right}
use Rattle.fixed_elementary.proofs.Raised.{in_word, past_word}
use Rattle.fixed_elementary.proofs.exponentials.narrow_in_bits.Goals as goal

pub returns-then-whole-from : goal.returns-then-whole-from
returns-then-whole-from c =
    let less : c.args.whole < c.args.bits = search rules in
    in_word c.args.mantissa c.args.whole 62 c.args.bits less (omega (arith, c.requires.bits)) c.requires.most

pub returns-else-whole-from : goal.returns-else-whole-from
returns-else-whole-from c =
    let more : c.args.bits ≤ c.args.whole = search rules in
    let most : 2 ^ c.args.bits ≤ 2 ^ 32 = pow-le-pow_right {n = 2} (omega arith) {i = c.args.bits} {j = 32} c.requires.bits in
    let same : 1 * 2 ^ c.args.bits % 2 ^ 64 ≡ 2 ^ c.args.bits = omega arith in
    same ∙ past_word c.args.mantissa c.args.whole 62 c.args.bits more c.requires.least
