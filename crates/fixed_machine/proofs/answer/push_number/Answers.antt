use Rattle.std.proofs.Common.{◌≡◌, ◌∙◌, ◌++◌, ℕ, List, ap, take, drop, length, arith, rules}
use Rattle.std.proofs.lemmas.List.{take-append-le}
use Rattle.fixed_word.specs.Decimal.{whole_text}
use Rattle.fixed_machine.specs.inside.Stepping.{number_in}
use Rattle.fixed_machine.proofs.answer.push_number.Goals as goal

pub returns-clause-items : goal.returns-clause-items
returns-clause-items c =
    let long : length c.args.tail.now ≡ 8 = search rules in
    let front = ap (take c.args.count) c.put_tail.ensures ∙ take-append-le c.args.count c.args.tail.now (drop 32 c.args.text.now) (omega (arith, long, c.requires.count)) in
    c.push_before.ensures.items ∙ ap (λ (xs : List ℕ). c.args.out.now.items ++ (whole_text (number_in c.args.n) ++ xs)) front
