use Rattle.std.proofs.Common.{◌≡◌, ◌+◌, ◌-◌, ◌/◌, ◌%◌, ◌++◌, ℕ, drop, ap, ◌∙◌, arith}
use Rattle.fixed_word.specs.Decimal.{natural_text}
use Rattle.fixed_digits.specs.inside.Digits.{pair_digits}
use Rattle.fixed_digits.proofs.Placed.{joined}
use Rattle.fixed_digits.proofs.Shown.{length_pairs, more_pairs}
use Rattle.fixed_digits.proofs.written.put_first_four.Goals as goal

pub overflow_sub-at : goal.overflow_sub-at
overflow_sub-at c = omega (arith, length_pairs c.args.number c.if-number-lt100.false, c.requires.room)

pub put_pair-requires-clause-room : goal.put_pair-requires-clause-room
put_pair-requires-clause-room c = omega (arith, length_pairs c.args.number c.if-number-lt100.false, c.requires.room, c.requires.within)

pub put_first_pair-requires-else-number-lt100-clause-room : goal.put_first_pair-requires-else-number-lt100-clause-room
put_first_pair-requires-else-number-lt100-clause-room c = omega (arith, length_pairs c.args.number c.if-number-lt100.false, c.requires.room)

pub returns-else-number-lt100-clause-digits : goal.returns-else-number-lt100-clause-digits
returns-else-number-lt100-clause-digits c =
    let n = c.args.number in
    let longer = length_pairs n c.if-number-lt100.false in
    let back : c.args.end - 2 + 2 ≡ c.args.end = omega (arith, longer, c.requires.room) in
    let behind = c.put_pair.ensures ∙ ap (λ (i : ℕ). pair_digits (n % 100) ++ drop i c.args.buffer.now) back in
    c.put_first_pair-else-number-lt100.ensures.digits ∙ joined (natural_text n) (natural_text (n / 100)) (pair_digits (n % 100)) _ (drop c.args.end c.args.buffer.now) (more_pairs n c.if-number-lt100.false) behind
