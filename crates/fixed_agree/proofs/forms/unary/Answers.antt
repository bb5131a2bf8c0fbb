use Rattle.fixed_agree.specs.Agreement.{one_operand}
use Rattle.fixed_agree.proofs.OneRow.{forms_agree}
use Rattle.fixed_agree.proofs.forms.unary.Goals as goal

pub returns : goal.returns
returns g c =
    forms_agree g.T.RawWord.SIGNED g.T.Valued.BITS c.args.op (one_operand (g.T.Valued.value c.args.a.bits) g.row.F) _ g.met.T.RawWord.width_law c.requires.row
    c.unary.ensures c.unary-2.ensures c.unary-3.ensures c.unary-4.ensures
