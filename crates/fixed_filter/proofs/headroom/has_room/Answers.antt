use Rattle.std.proofs.Common.{ap, subst, ◌∙◌, ◌≤◌, ◌+◌, ◌*◌, ◌/◌, ◌^◌, ℕ}
use Rattle.std.specs.Prelude.{unsigned_abs}
use Rattle.fixed_filter.specs.inside.Headroom.{roundings}
use Rattle.fixed_filter.proofs.Untested.{at_most}
use Rattle.fixed_filter.proofs.headroom.has_room.Goals as goal

pub returns : goal.returns
returns g c = λ fit.
    let number = g.T.Valued.value in
    let signed = g.T.RawWord.SIGNED in
    let reach = c.args.weight * c.args.peak / 2 ^ c.args.down in
    let tested = at_most (reach + c.most_roundings.result) c.magnitude.result fit in
    let rounded = subst (λ (k : ℕ). reach + k ≤ c.magnitude.result) c.most_roundings.ensures.value tested in
    let end = c.magnitude.ensures.magnitude ∙ ap (λ w. unsigned_abs (number w)) c.MAX.ensures ∙ ap unsigned_abs g.met.T.RawWord.max_law in
    subst (λ (k : ℕ). reach + roundings signed c.args.count ≤ k) end rounded
