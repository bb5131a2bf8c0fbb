use Rattle.fixed_machine.specs.Types.{MulAdd}
use Rattle.fixed_agree.specs.Agreement.{three_operands}
use Rattle.fixed_agree.proofs.OneRow.{forms_agree, mul_add_defined}
use Rattle.fixed_agree.proofs.forms.mul_add.Goals as goal

pub returns : goal.returns
returns g c =
    forms_agree g.T.RawWord.SIGNED g.T.Valued.BITS MulAdd (three_operands (g.T.Valued.value c.args.a.bits) (g.T.Valued.value c.args.mul.bits) (g.T.Valued.value c.args.add.bits) g.row.F g.row.G g.row.F) _ g.met.T.RawWord.width_law (mul_add_defined _)
    c.mul_add.ensures c.mul_add-2.ensures c.mul_add-3.ensures c.mul_add-4.ensures
