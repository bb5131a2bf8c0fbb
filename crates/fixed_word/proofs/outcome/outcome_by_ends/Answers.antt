use Rattle.std.proofs.Common.{ap, ◌∙◌}
use Rattle.fixed_word.proofs.Sides.{side_by_ends}
use Rattle.fixed_word.proofs.outcome.outcome_by_ends.Goals as goal

pub returns : goal.returns
returns g c =
    let s = g.T.RawWord.SIGNED in
    let n = g.T.Valued.BITS in
    let least = c.whole.ensures.value ∙ ap g.T.Valued.value c.MIN.ensures ∙ g.met.T.RawWord.min_law in
    let greatest = c.whole-2.ensures.value ∙ ap g.T.Valued.value c.MAX.ensures ∙ g.met.T.RawWord.max_law in
    record {
      wrapped = c.cut-wrapped.ensures;
      side = rw c.side_between-side.ensures (side_by_ends s n _ _ (g.T.Whole.Valued.value c.args.whole) least greatest);
    }
