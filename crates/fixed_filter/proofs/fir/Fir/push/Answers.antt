use Rattle.std.proofs.Common.{List, map, ap, ◌∙◌}
use Rattle.fixed_filter.specs.Banks.{Filter, places_of, shape_with, with_sample}
use Rattle.fixed_filter.specs.Replies.{as_result, filter_reply}
use Rattle.fixed_filter.proofs.Blocks.{pairs_map, pushed_map}
use Rattle.fixed_filter.proofs.fir.Fir.push.Goals as goal

pub returns-clause-held : goal.returns-clause-held
returns-clause-held g c =
    let inside = c.self.inside in
    let of_past : List g.row.T.Denot → Filter g.row.T.Denot = λ past. record { taps = map (λ t. t.bits) inside.taps.now; past = past } in
    ap of_past (ap (map (λ x. x.bits)) c.step.ensures.past ∙ pushed_map (λ x. x.bits) c.args.sample inside.past.now)
    ∙ ap (with_sample c.args.sample.bits) c.self.view_is

pub returns-clause-reply : goal.returns-clause-reply
returns-clause-reply g c =
    let number = g.T.Valued.value in
    let inside = c.self.inside in
    let told = rw c.shape-shape.ensures at c.step.ensures.reply in
    c.numbered.ensures
    ∙ ap as_result (told ∙ ap (filter_reply g.T.RawWord.SIGNED g.T.Valued.BITS (places_of (shape_with g.row.OUT g.row.TAP g.row.IN))) (pairs_map (λ t. t.bits) (λ x. x.bits) number inside.taps.now c.step.new.past))
