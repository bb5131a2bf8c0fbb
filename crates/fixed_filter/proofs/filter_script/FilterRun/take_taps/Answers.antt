use Rattle.std.proofs.Common.{◌<◌, length, [], map, refl, arith, ap, sym, ◌∙◌}
use Rattle.std.proofs.lemmas.Bool.Decides.{nat_tests}
use Rattle.std.proofs.lemmas.List.{length-map}
use Rattle.fixed_filter.specs.inside.Kept.{KeptState, filter_map}
use Rattle.fixed_text.specs.Readings.{Read}
use Rattle.fixed_filter.proofs.Lines.{some_taps, taps_taken}
use Rattle.fixed_filter.proofs.filter_script.FilterRun.take_taps.Goals as goal

pub add_channel-requires : goal.add_channel-requires
add_channel-requires g c =
    let i = c.if-is_empty.false in
    let j = c.is_empty.ensures in
    let some : 0 < length c.args.tokens = grind (arith, nat_tests) in
    let taps = some_taps g.T.RawWord.SIGNED g.T.Valued.BITS c.args.tokens (map g.T.Valued.value c.in-Ok.taps.items) some c.in-Ok.ensures in
    rw c.deref.ensures.value (omega (arith, length-map c.in-Ok.taps.items g.T.Valued.value))

pub returns-in-Ok-add_channel : goal.returns-in-Ok-add_channel
returns-in-Ok-add_channel g c =
    let number = g.T.Valued.value in
    let inside = c.self.inside in
    let state : KeptState = record { signed = g.T.RawWord.SIGNED; bits = g.T.Valued.BITS; shape = inside.bank.shape; channels = map (filter_map number) inside.bank.channels; counts = inside.counts.items; begun = inside.begun } in
    let i = c.if-is_empty.false in
    let j = c.is_empty.ensures in
    let some : 0 < length c.args.tokens = grind (arith, nat_tests) in
    let added = rw c.deref.ensures.value at c.in-Ok-add_channel.ensures in
    ([], taps_taken c.args.self.now state c.args.tokens (map number c.in-Ok.taps.items) c.self.view_is c.if-self.false some c.in-Ok.ensures ∙ ap (λ (s : KeptState). Read (s, [])) (sym added), refl)
