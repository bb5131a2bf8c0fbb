use Rattle.std.proofs.Common.{◌≡◌, ◌∙◌, sym, arith, rules, codes}
use Rattle.fixed_word.specs.Decimal.{natural_text}
use Rattle.fixed_calc.proofs.Asked.{two_texts}
use Rattle.fixed_calc.proofs.command.command_of.Goals as goal

pub returns-in-Some : goal.returns-in-Some
returns-in-Some c =
    let lines = c.in-Some.ensures.some in
    let named : c.as_bytes.result.now ≡ codes "demo" = search rules in
    record {
      texts = two_texts c.args.words.now c.name-item.result c.number-item.result (codes "demo") (natural_text c.in-Some.lines) (omega arith) c.name-item.is c.number-item.is (sym c.as_bytes.ensures.value ∙ named) (sym c.as_bytes-in-len2.ensures.value ∙ sym lines.0);
      some = lines.1;
      most = lines.2;
    }
