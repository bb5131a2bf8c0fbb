use Rattle.std.proofs.Common.{Bool, ap, ◌∙◌, if◌then◌else◌}
use Rattle.fixed_word.specs.Format.{highest, lowest}
use Rattle.fixed_float.proofs.Rows.{infinity_sign}
use Rattle.fixed_float.proofs.held.end_beside.Goals as goal

pub returns : goal.returns
returns g c = λ s e.
    c.end_on.ensures ∙ ap (λ (t : Bool). if t then lowest g.T.RawWord.SIGNED g.T.Valued.BITS else highest g.T.RawWord.SIGNED g.T.Valued.BITS) (infinity_sign c.args.x s e)
