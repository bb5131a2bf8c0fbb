use Rattle.std.proofs.Common.{◌≡◌, ◌+◌, ◌∙◌, true, get_or, sym, arith}
use Rattle.std.specs.Char.{is_ascii_digit}
use Rattle.fixed_machine.proofs.QuickText.{register_two}
use Rattle.fixed_machine.proofs.quick.long_register_before.Goals as goal

pub returns-then-number-count : goal.returns-then-number-count
returns-then-number-count c =
    let bytes = c.args.bytes.now in
    let at = c.args.at in
    let tens : is_ascii_digit (get_or bytes (at + 1) 0) ≡ true = sym c.is_ascii_digit.ensures.value ∙ grind (arith, c.if-not-is_ascii_digit.false) in
    let ones : is_ascii_digit (get_or bytes (at + 2) 0) ≡ true = sym c.is_ascii_digit-else-tens-eq48.ensures.value ∙ grind (arith, c.if-not-is_ascii_digit-2.false) in (
      omega (arith, c.from.ensures, c.if-number-count.true),
      register_two bytes at c.from.result c.args.separator c.requires (omega (arith, c.if-bytes-at-ne114.false)) tens (λ zero. omega (arith, c.if-tens-eq48.false, zero)) ones c.from.ensures (omega (arith, c.if-bytes-at.false)),
    )
