use Rattle.std.proofs.Common.{◌≡◌, ◌+◌, ◌-◌, ◌/◌, ◌%◌, ◌++◌, ℕ, drop, ap, ◌∙◌, arith}
use Rattle.fixed_word.specs.Decimal.{natural_text}
use Rattle.fixed_digits.specs.inside.Digits.{four_digits}
use Rattle.fixed_digits.proofs.Placed.{joined}
use Rattle.fixed_digits.proofs.Shown.{length_fours, more_fours}
use Rattle.fixed_digits.proofs.written.put_first.Goals as goal

pub overflow_sub-at : goal.overflow_sub-at
overflow_sub-at c = omega (arith, length_fours c.args.number c.if-number-lt10000.false, c.requires.room)

pub put_four-requires-clause-room : goal.put_four-requires-clause-room
put_four-requires-clause-room c = omega (arith, length_fours c.args.number c.if-number-lt10000.false, c.requires.room, c.requires.within)

pub put_first_four-requires-else-number-lt10000-clause-room : goal.put_first_four-requires-else-number-lt10000-clause-room
put_first_four-requires-else-number-lt10000-clause-room c = omega (arith, length_fours c.args.number c.if-number-lt10000.false, c.requires.room)

pub returns-else-number-lt10000-clause-digits : goal.returns-else-number-lt10000-clause-digits
returns-else-number-lt10000-clause-digits c =
    let n = c.args.number in
    let longer = length_fours n c.if-number-lt10000.false in
    let back : c.args.end - 4 + 4 ≡ c.args.end = omega (arith, longer, c.requires.room) in
    let behind = c.put_four.ensures ∙ ap (λ (i : ℕ). four_digits (n % 10000) ++ drop i c.args.buffer.now) back in
    c.put_first_four-else-number-lt10000.ensures.digits ∙ joined (natural_text n) (natural_text (n / 10000)) (four_digits (n % 10000)) _ (drop c.args.end c.args.buffer.now) (more_fours n c.if-number-lt10000.false) behind
