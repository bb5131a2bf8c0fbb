use Rattle.fixed_agree.specs.Agreement.{one_operand}
use Rattle.fixed_agree.proofs.OneRow.{forms_agree}
use Rattle.fixed_agree.proofs.forms.unary_signed.Goals as goal

pub returns : goal.returns
returns g c =
    forms_agree g.T.RawWord.SIGNED g.T.Valued.BITS c.args.op (one_operand (g.T.Valued.value c.args.a.bits) g.row.F) _ g.met.T.RawWord.width_law c.requires.row
    c.unary_signed.ensures c.unary_signed-2.ensures c.unary_signed-3.ensures c.unary_signed-4.ensures
