use Rattle.std.proofs.Common.{rules}
use Rattle.fixed_face.proofs.EndsLeft.{left, refused}
use Rattle.fixed_face.proofs.intervals.leave.Goals as goal

pub returns-in-Some : goal.returns-in-Some
returns-in-Some g c = λ e h. left g.T.Valued.value g.T.RawWord.SIGNED g.T.Valued.BITS e c.args.found c.in-Some.interval c.lo.result c.hi.result _ c.in-Some.is c.lo.ensures.value c.hi.ensures.value h

pub returns-in-None : goal.returns-in-None
returns-in-None g c = λ e h. refused g.T.Valued.value g.T.RawWord.SIGNED g.T.Valued.BITS e c.args.found _ _ c.in-None.is h (search rules)
