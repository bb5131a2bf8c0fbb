use Rattle.std.proofs.Common.{rules, arith, ◌≡◌, of_z, to_z, w32}
use Rattle.fixed_face.proofs.Choices.{fraction_is}
use Rattle.fixed_face.proofs.NumbersLeft.{pair_left}
use Rattle.fixed_face.proofs.elementary.sin_cos.Goals as goal

pub returns : goal.returns
returns g c =
    let value = g.T.Valued.value in
    let n = g.T.Valued.BITS in
    let sine = c.sin_cos_of.ensures.sine in
    let cosine = c.sin_cos_of.ensures.cosine in
    let code : to_z w32 (of_z w32 c.leave_both.result) ≡ c.leave_both.result = search rules in
    rw code (pair_left value g.T.RawWord.SIGNED n _ _ _ sine.0 cosine.0 (c.args.sine.now, c.args.cosine.now) (c.leave_both.new.first, c.leave_both.new.second) _ (fraction_is n c.args.frac _ (omega arith)) sine.1 cosine.1 (c.leave_both.ensures sine.0 cosine.0 sine.2 cosine.2))
