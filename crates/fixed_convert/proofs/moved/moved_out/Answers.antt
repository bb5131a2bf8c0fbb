use Rattle.std.proofs.Common.{ap, ◌∙◌}
use Rattle.fixed_convert.proofs.MovedOut.{out_side, out_wrap}
use Rattle.fixed_convert.proofs.moved.moved_out.Goals as goal

pub returns : goal.returns
returns g c = λ by l.
    let s = g.T.RawWord.SIGNED in
    let n = g.T.Valued.BITS in
    let x = g.S.Valued.value c.args.a in
    let e = c.side_of_sign.ensures in
    record {
      wrapped = ap g.T.Valued.value c.ZERO.ensures ∙ g.met.T.RawWord.zero_law ∙ out_wrap s n by x g.met.T.RawWord.width_law l;
      side = out_side s n by x _ g.met.T.RawWord.width_law l e.zero e.below e.above;
    }
