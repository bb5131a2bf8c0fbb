use Rattle.fixed_machine.specs.Types.{AddProd}
use Rattle.fixed_agree.specs.Agreement.{three_operands}
use Rattle.fixed_agree.proofs.OneRow.{forms_agree, add_prod_defined}
use Rattle.fixed_agree.proofs.forms.add_prod.Goals as goal

pub returns : goal.returns
returns g c =
    forms_agree g.T.RawWord.SIGNED g.T.Valued.BITS AddProd (three_operands (g.T.Valued.value c.args.sum.bits) (g.T.Valued.value c.args.a.bits) (g.T.Valued.value c.args.b.bits) g.row.F g.row.A g.row.B) _ g.met.T.RawWord.width_law (add_prod_defined _)
    c.add_prod.ensures c.add_prod-2.ensures c.add_prod-3.ensures c.add_prod-4.ensures
