use Rattle.std.proofs.Common.{◌+◌, ◌%◌, ◌^◌, ◌<◌, ◌≤◌, ℕ, ℤ, true, List, length, map, get_or, set, sym, ap, subst, ◌∙◌, arith}
use Rattle.std.proofs.lemmas.List.{length-map, length-set}
use Rattle.fixed_filter.specs.Banks.{Filter, change_at, with_sample}
use Rattle.fixed_filter.specs.inside.Kept.{KeptState, filter_map, kept_reply, kept_sample, lane_at}
use Rattle.fixed_filter.proofs.Places.{set_changes, same_at}
use Rattle.fixed_filter.proofs.Viewed.{channels_moved, lane_map, length_changed}
use Rattle.fixed_filter.proofs.filter_script.FilterRun.push.Goals as goal

pub invariant_of-self : goal.invariant_of-self
invariant_of-self g c =
    let inside = c.self.inside in
    let before : length inside.bank.channels ≤ length inside.counts.items = c.self.invariant in
    rw c.push-reply.ensures.held (omega (arith, length_changed c.args.channel (with_sample c.args.sample) inside.bank.channels, length-set inside.counts.items c.args.channel ((c.index-number.result.now + 1) % 2 ^ 64)))

pub returns-clause-state : goal.returns-clause-state
returns-clause-state g c =
    let number = g.T.Valued.value in
    let inside = c.self.inside in
    let n = c.index-number.result.now in
    let x = c.args.sample in
    let i = c.args.channel in
    let before : length inside.bank.channels ≤ length inside.counts.items = c.self.invariant in
    let placed : i < length (map (filter_map number) inside.bank.channels) = subst (λ (k : KeptState). i < length k.channels) (sym c.self.view_is) c.requires in
    let there : i < length inside.counts.items = omega (arith, length-map inside.bank.channels (filter_map number)) in
    let viewed = λ (channels : List (Filter ℤ)) (counts : List ℕ). let k : KeptState = record { signed = g.T.RawWord.SIGNED; bits = g.T.Valued.BITS; shape = inside.bank.shape; channels = channels; counts = counts; begun = true } in k in
    rw c.push-reply.ensures.held
    (ap (λ (channels : List (Filter ℤ)). viewed channels (set inside.counts.items i ((n + 1) % 2 ^ 64))) (channels_moved number i x inside.bank.channels)
    ∙ ap (λ (counts : List ℕ). viewed (change_at i (with_sample (number x)) (map (filter_map number) inside.bank.channels)) counts) (set_changes (λ n. (n + 1) % 2 ^ 64) inside.counts.items i n there c.index-number.ensures)
    ∙ ap (kept_sample i (number x)) c.self.view_is)

pub returns-clause-number : goal.returns-clause-number
returns-clause-number g c =
    let number = g.T.Valued.value in
    let inside = c.self.inside in
    let i = c.args.channel in
    let before : length inside.bank.channels ≤ length inside.counts.items = c.self.invariant in
    let placed : i < length (map (filter_map number) inside.bank.channels) = subst (λ (k : KeptState). i < length k.channels) (sym c.self.view_is) c.requires in
    let there : i < length inside.counts.items = omega (arith, length-map inside.bank.channels (filter_map number)) in
    c.index-number.ensures ∙ same_at inside.counts.items i c.index-number.result.now 0 there ∙ ap (λ (k : KeptState). get_or k.counts i 0) c.self.view_is

pub returns-clause-reply : goal.returns-clause-reply
returns-clause-reply g c =
    let number = g.T.Valued.value in
    let inside = c.self.inside in
    let x = c.args.sample in
    let i = c.args.channel in
    let state : KeptState = record { signed = g.T.RawWord.SIGNED; bits = g.T.Valued.BITS; shape = inside.bank.shape; channels = map (filter_map number) inside.bank.channels; counts = inside.counts.items; begun = inside.begun } in
    let told = rw c.push-reply.ensures.held at c.push-reply.ensures.reply in
    told
    ∙ ap (kept_reply state) (sym (lane_map number (change_at i (with_sample x) inside.bank.channels) i))
    ∙ ap (λ (ls : List (Filter ℤ)). kept_reply state (lane_at ls i)) (channels_moved number i x inside.bank.channels)
    ∙ ap (λ (k : KeptState). kept_reply k (lane_at (change_at i (with_sample (number x)) k.channels) i)) c.self.view_is
