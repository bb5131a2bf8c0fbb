use Rattle.fixed_num.proofs.Logs.{raised_is}
use Rattle.fixed_num.proofs.log_argument.raised.Goals as goal

pub returns-clause-value : goal.returns-clause-value
returns-clause-value g c =
    let l = g.met.D.Digits in
    raised_is g.D.Valued.BITS c.args.by (g.D.Valued.value c.args.a) _ l.width_law (l.sign_law c.args.a) c.shl.ensures.value c.requires.fits
