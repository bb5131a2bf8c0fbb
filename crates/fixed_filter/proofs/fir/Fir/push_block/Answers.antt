use Rattle.std.proofs.Common.{ℤ, Some, length, map, take, ap, subst, sym, ◌∙◌}
use Rattle.std.specs.Prelude.{IfErr}
use Rattle.std.proofs.lemmas.List.{take-map}
use Rattle.fixed_num.specs.declared.format.Fixed.{Fixed}
use Rattle.fixed_filter.specs.Banks.{Filter, places_of, shape_with}
use Rattle.fixed_filter.specs.Blocks.{StopsAt, past_after, reply_at, reply_to, taken_of}
use Rattle.fixed_filter.specs.Replies.{filter_reply}
use Rattle.fixed_filter.proofs.Blocks.{pairs_map, past_map, replies_map, stops_map}
use Rattle.fixed_filter.proofs.fir.Fir.push_block.Goals as goal

pub returns-clause-outputs : goal.returns-clause-outputs
returns-clause-outputs g c =
    let number = g.T.Valued.value in
    let signed = g.T.RawWord.SIGNED in
    let n = g.T.Valued.BITS in
    let places = places_of (shape_with g.row.OUT g.row.TAP g.row.IN) in
    let tap_word : Fixed g.row.T.Denot g.row.TAP → g.row.T.Denot = λ t. t.bits in
    let word : Fixed g.row.T.Denot g.row.IN → g.row.T.Denot = λ x. x.bits in
    let left : Fixed g.row.T.Denot g.row.TAP → ℤ = λ t. number t.bits in
    let right : Fixed g.row.T.Denot g.row.IN → ℤ = λ x. number x.bits in
    let taps = c.self.inside.taps.now in
    let before = c.self.inside.past.now in
    let samples = c.args.input.now in
    let told = rw c.shape-shape.ensures at c.block.ensures.outputs in
    λ i h.
    told i h
    ∙ ap Some (replies_map word (reply_to left right signed n places taps) (reply_to number number signed n places (map tap_word taps)) (λ ps. ap (filter_reply signed n places) (pairs_map tap_word word number taps ps)) before samples i)
    ∙ ap (λ (f : Filter g.row.T.Denot). Some (reply_at (reply_to number number signed n places f.taps) f.past (map word samples) i)) c.self.view_is

pub returns-clause-past : goal.returns-clause-past
returns-clause-past g c =
    let word : Fixed g.row.T.Denot g.row.IN → g.row.T.Denot = λ x. x.bits in
    let before = c.self.inside.past.now in
    let samples = c.args.input.now in
    let k = taken_of (length samples) c.block.result in
    ap (map word) c.block.ensures.past
    ∙ past_map word before (take k samples)
    ∙ ap (past_after (map word before)) (sym (take-map word k samples))
    ∙ ap (λ (f : Filter g.row.T.Denot). past_after f.past (take k (map word samples))) c.self.view_is

pub returns-clause-stop : goal.returns-clause-stop
returns-clause-stop g c =
    let number = g.T.Valued.value in
    let signed = g.T.RawWord.SIGNED in
    let n = g.T.Valued.BITS in
    let places = places_of (shape_with g.row.OUT g.row.TAP g.row.IN) in
    let tap_word : Fixed g.row.T.Denot g.row.TAP → g.row.T.Denot = λ t. t.bits in
    let word : Fixed g.row.T.Denot g.row.IN → g.row.T.Denot = λ x. x.bits in
    let left : Fixed g.row.T.Denot g.row.TAP → ℤ = λ t. number t.bits in
    let right : Fixed g.row.T.Denot g.row.IN → ℤ = λ x. number x.bits in
    let taps = c.self.inside.taps.now in
    let before = c.self.inside.past.now in
    let samples = c.args.input.now in
    let told = rw c.shape-shape.ensures at c.block.ensures.stop in
    let stops = stops_map word (reply_to left right signed n places taps) (reply_to number number signed n places (map tap_word taps)) (λ ps. ap (filter_reply signed n places) (pairs_map tap_word word number taps ps)) before samples c.block.result told in
    subst (λ (f : Filter g.row.T.Denot). IfErr c.block.result (StopsAt (reply_to number number signed n places f.taps) f.past (map word samples))) c.self.view_is stops
