use Rattle.std.proofs.Common.{◌≡◌, ◌∙◌, sym, arith, IsTrue}
use Rattle.std.proofs.lemmas.Option.{same_Some}
use Rattle.fixed_calc.proofs.Asked.{lines_taken, lines_again}
use Rattle.fixed_calc.proofs.command.lines_of.Goals as goal

pub returns-in_default-clause-none : goal.returns-in_default-clause-none
returns-in_default-clause-none c = λ n text some most. let again = lines_again c.args.word.now n text most in cc

pub returns-then-is_line_count-clause-some : goal.returns-then-is_line_count-clause-some
returns-then-is_line_count-clause-some c =
    let range = c.is_line_count.ensures.0 c.if-is_line_count.true in
    (lines_taken c.args.word.now c.in-Some.number (sym c.in-Some.ensures) range.1, range.0, range.1)

pub returns-else-is_line_count-clause-none : goal.returns-else-is_line_count-clause-none
returns-else-is_line_count-clause-none c = λ n text some most.
    let same : c.in-Some.number ≡ n = same_Some c.in-Some.number n (c.in-Some.ensures ∙ lines_again c.args.word.now n text most) in
    let told : IsTrue c.is_line_count.result = c.is_line_count.ensures.1 (omega arith, omega arith) in
    cc
