use Rattle.std.proofs.Common.{◌≡◌, ◌+◌, ◌-◌, ◌/◌, ◌%◌, ◌++◌, ◌∷◌, ℕ, List, drop, length, ap, sym, ◌∙◌, arith}
use Rattle.fixed_digits.proofs.Placed.{put_digit}
use Rattle.fixed_digits.proofs.Shown.{one_digit, two_digits}
use Rattle.fixed_digits.proofs.written.put_first_pair.Goals as goal

pub overflow_sub-at : goal.overflow_sub-at
overflow_sub-at c = omega (arith, ap length (one_digit c.args.number c.if-number-lt10.true), c.requires.room)

pub bounds-buffer-at : goal.bounds-buffer-at
bounds-buffer-at c = omega (arith, ap length (one_digit c.args.number c.if-number-lt10.true), c.requires.room, c.requires.within)

pub overflow_sub-at-else-number-lt10 : goal.overflow_sub-at-else-number-lt10
overflow_sub-at-else-number-lt10 c = omega (arith, ap length (two_digits c.args.number c.if-number-lt10.false c.requires.number), c.requires.room)

pub put_pair-requires-clause-room : goal.put_pair-requires-clause-room
put_pair-requires-clause-room c = omega (arith, ap length (two_digits c.args.number c.if-number-lt10.false c.requires.number), c.requires.room, c.requires.within)

pub returns-then-number-lt10-clause-digits : goal.returns-then-number-lt10-clause-digits
returns-then-number-lt10-clause-digits c =
    let one = one_digit c.args.number c.if-number-lt10.true in
    put_digit c.args.buffer.now c.args.end (48 + c.args.number) (omega (arith, ap length one, c.requires.room)) c.requires.within
    ∙ ap (λ (ds : List ℕ). ds ++ drop c.args.end c.args.buffer.now) (sym one)

pub returns-else-number-lt10-clause-digits : goal.returns-else-number-lt10-clause-digits
returns-else-number-lt10-clause-digits c =
    let two = two_digits c.args.number c.if-number-lt10.false c.requires.number in
    let back : c.args.end - 2 + 2 ≡ c.args.end = omega (arith, ap length two, c.requires.room) in
    c.put_pair.ensures
    ∙ ap (λ (k : ℕ). (48 + c.args.number / 10) ∷ (48 + c.args.number % 10) ∷ drop k c.args.buffer.now) back
    ∙ ap (λ (ds : List ℕ). ds ++ drop c.args.end c.args.buffer.now) (sym two)
