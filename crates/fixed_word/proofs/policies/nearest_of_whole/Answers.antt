use Rattle.std.proofs.Common.{ap, ◌∙◌}
use Rattle.fixed_word.specs.Format.{clamp, wrap}
use Rattle.fixed_word.proofs.Nearest.{clamp_in_range}
use Rattle.fixed_word.proofs.Wraps.{width_pos, wrap_same}
use Rattle.fixed_word.proofs.policies.nearest_of_whole.Goals as goal

pub returns : goal.returns
returns g c =
    let s = g.T.RawWord.SIGNED in
    let n = g.T.Valued.BITS in
    let x = g.T.Whole.Valued.value c.args.whole in
    let least = c.whole.ensures.value ∙ ap g.T.Valued.value c.MIN.ensures ∙ g.met.T.RawWord.min_law in
    let greatest = c.whole-2.ensures.value ∙ ap g.T.Valued.value c.MAX.ensures ∙ g.met.T.RawWord.max_law in
    let near = rw (least, greatest) at c.between.ensures in
    ◌∙◌ {b = wrap s n (clamp s n x)} (rw near at c.cut.ensures) (wrap_same s n (clamp s n x) (width_pos n g.met.T.RawWord.width_law) (clamp_in_range s n x))
