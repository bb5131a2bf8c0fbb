use Rattle.std.proofs.Common.{List, [], ◌∷◌, ◌++◌, ℕ, ℤ, map, ap, ◌∙◌}
use Rattle.fixed_filter.specs.Banks.{Filter}
use Rattle.fixed_filter.specs.inside.Kept.{KeptState, kept_taps}
use Rattle.fixed_filter.proofs.Viewed.{channels_added}
use Rattle.fixed_filter.proofs.filter_script.FilterRun.add_channel.Goals as goal

pub returns : goal.returns
returns g c =
    let number = g.T.Valued.value in
    let inside = c.self.inside in
    let viewed = λ (channels : List (Filter ℤ)) (counts : List ℕ). let k : KeptState = record { signed = g.T.RawWord.SIGNED; bits = g.T.Valued.BITS; shape = inside.bank.shape; channels = channels; counts = counts; begun = inside.begun } in k in
    rw (c.in_ok-add_channel.ensures.added, c.in_ok-push.ensures.items)
    (ap (λ (channels : List (Filter ℤ)). viewed channels (inside.counts.items ++ 0 ∷ [])) (channels_added number g.T.RawWord.ZERO c.args.taps.now inside.bank.channels g.met.T.RawWord.zero_law)
    ∙ ap (kept_taps (map number c.args.taps.now)) c.self.view_is)
