use Rattle.fixed_agree.specs.Agreement.{two_operands}
use Rattle.fixed_agree.proofs.OneRow.{forms_agree}
use Rattle.fixed_agree.proofs.forms.binary.Goals as goal

pub returns : goal.returns
returns g c =
    forms_agree g.T.RawWord.SIGNED g.T.Valued.BITS c.args.op (two_operands (g.T.Valued.value c.args.a.bits) (g.T.Valued.value c.args.b.bits) g.row.F) _ g.met.T.RawWord.width_law c.requires.row
    c.binary.ensures c.binary-2.ensures c.binary-3.ensures c.binary-4.ensures
