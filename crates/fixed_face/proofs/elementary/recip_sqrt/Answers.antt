use Rattle.std.proofs.Common.{rules, refl, arith, ◌≡◌, of_z, to_z, w32}
use Rattle.fixed_face.proofs.NumbersLeft.{near_left, positive_is}
use Rattle.fixed_face.proofs.elementary.recip_sqrt.Goals as goal

pub returns : goal.returns
returns g c =
    let value = g.T.Valued.value in
    let n = g.T.Valued.BITS in
    let code : to_z w32 (of_z w32 c.leave.result) ≡ c.leave.result = search rules in
    rw code (near_left value g.T.RawWord.SIGNED n _ _ _ _ _ _ (positive_is n c.args.frac (value c.args.a) (omega arith) (search rules)) refl (c.leave.ensures.exact _ c.recip_sqrt_of.ensures))
