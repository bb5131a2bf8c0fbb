use Rattle.std.proofs.Common.{ap, ◌∙◌, if◌then◌else◌}
use Rattle.std.specs.Float.Ieee.{lt}
use Rattle.fixed_float.proofs.Limits.{two_steps}
use Rattle.fixed_float.proofs.held.clamped.Goals as goal

pub returns : goal.returns
returns c =
    let most = c.args.most in
    c.smaller.ensures ∙ ap (λ y. if lt most y then most else y) c.larger.ensures ∙ two_steps c.args.x c.args.least most c.requires
