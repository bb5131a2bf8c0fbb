use Rattle.std.proofs.Common.{rules, arith, ◌≡◌, of_z, to_z, w32}
use Rattle.fixed_face.proofs.Choices.{fraction_is}
use Rattle.fixed_face.proofs.NumbersLeft.{near_left}
use Rattle.fixed_face.proofs.elementary.sin.Goals as goal

pub returns : goal.returns
returns g c =
    let value = g.T.Valued.value in
    let n = g.T.Valued.BITS in
    let is = c.sin_of.ensures in
    let code : to_z w32 (of_z w32 c.leave.result) ≡ c.leave.result = search rules in
    rw code (near_left value g.T.RawWord.SIGNED n _ _ is.0 _ _ _ (fraction_is n c.args.frac _ (omega arith)) is.1 (c.leave.ensures.exact is.0 is.2))
