use Rattle.std.proofs.Common.{◌≡◌, ◌∙◌, true, get_or, sym, arith}
use Rattle.std.specs.Char.{is_ascii_digit}
use Rattle.fixed_script.proofs.Fronts.{short_register_whole, short_register_cut}
use Rattle.fixed_script.proofs.registers.front_short_register.Goals as goal

pub returns-then-bytes-eq2 : goal.returns-then-bytes-eq2
returns-then-bytes-eq2 c =
    let digit : is_ascii_digit (get_or c.args.bytes.now 1 0) ≡ true = sym c.is_ascii_digit.ensures.value ∙ grind (arith, c.if-not-is_ascii_digit.false) in
    short_register_whole c.args.bytes.now (omega arith) (omega arith) digit

pub returns-then-bytes-eq32 : goal.returns-then-bytes-eq32
returns-then-bytes-eq32 c =
    let digit : is_ascii_digit (get_or c.args.bytes.now 1 0) ≡ true = sym c.is_ascii_digit.ensures.value ∙ grind (arith, c.if-not-is_ascii_digit.false) in
    short_register_cut c.args.bytes.now (omega arith) (omega arith) digit (omega arith)
