use Rattle.fixed_agree.specs.Agreement.{with_integer}
use Rattle.fixed_agree.proofs.OneRow.{forms_agree}
use Rattle.fixed_agree.proofs.forms.by_integer.Goals as goal

pub returns : goal.returns
returns g c =
    forms_agree g.T.RawWord.SIGNED g.T.Valued.BITS c.args.op (with_integer (g.T.Valued.value c.args.a.bits) (g.T.Valued.value c.args.k) g.row.F) _ g.met.T.RawWord.width_law c.requires.row
    c.by_integer.ensures c.by_integer-2.ensures c.by_integer-3.ensures c.by_integer-4.ensures
