use Rattle.std.proofs.Common.{rules, refl, ◌≡◌, of_z, to_z, w32}
use Rattle.fixed_face.proofs.NumbersLeft.{near_left}
use Rattle.fixed_face.proofs.elementary.hypot.Goals as goal

pub returns : goal.returns
returns g c =
    let value = g.T.Valued.value in
    let n = g.T.Valued.BITS in
    let code : to_z w32 (of_z w32 c.leave.result) ≡ c.leave.result = search rules in
    rw code (near_left value g.T.RawWord.SIGNED n _ _ _ _ _ _ refl refl (c.leave.ensures.exact _ c.hypot_of.ensures))
