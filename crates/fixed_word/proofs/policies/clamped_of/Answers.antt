use Rattle.std.proofs.Common.{ℤ, Some, ap, ◌∙◌}
use Rattle.fixed_word.proofs.Nearest.{clamp_by_choices}
use Rattle.fixed_word.proofs.policies.clamped_of.Goals as goal

pub returns : goal.returns
returns g c = λ x h.
    let least = ap g.T.Valued.value c.MIN.ensures ∙ g.met.T.RawWord.min_law in
    let greatest = ap g.T.Valued.value c.MAX.ensures ∙ g.met.T.RawWord.max_law in
    let e = clamp_by_choices g.T.Valued.value g.T.RawWord.SIGNED g.T.Valued.BITS x c.args.outcome c.MIN.result c.MAX.result c.eq.result c.eq-2.result g.met.T.RawWord.width_law h least greatest (λ f. (rw f at c.eq.ensures, rw f at c.eq-2.ensures)) (λ f. (rw f at c.eq.ensures, rw f at c.eq-2.ensures)) (λ f. rw f at c.eq-2.ensures) in
    rw (c.unless-2.ensures, c.unless.ensures) (ap (λ (z : ℤ). Some z) e)
