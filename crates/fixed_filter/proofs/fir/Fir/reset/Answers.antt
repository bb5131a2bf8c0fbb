use Rattle.std.proofs.Common.{◌≡◌, ℕ, List, length, map, replicate, ap, sym, ◌∙◌}
use Rattle.std.proofs.lemmas.List.{length-map}
use Rattle.fixed_num.specs.declared.format.Fixed.{Fixed}
use Rattle.fixed_filter.specs.Banks.{Filter, fresh}
use Rattle.fixed_filter.proofs.Blocks.{replicate_map}
use Rattle.fixed_filter.proofs.fir.Fir.reset.Goals as goal

pub returns : goal.returns
returns g c =
    let inside = c.self.inside in
    let invariant = c.self.invariant in
    let tap_word : Fixed g.row.T.Denot g.row.TAP → g.row.T.Denot = λ t. t.bits in
    let word : Fixed g.row.T.Denot g.row.IN → g.row.T.Denot = λ x. x.bits in
    let of_past : List g.row.T.Denot → Filter g.row.T.Denot = λ past. record { taps = map tap_word inside.taps.now; past = past } in
    let count : length inside.past.now ≡ length (map tap_word inside.taps.now) = sym invariant.0 ∙ sym (length-map inside.taps.now tap_word) in
    ap of_past (ap (map word) c.clear.ensures ∙ replicate_map word (length inside.past.now) (record { bits = g.T.RawWord.ZERO }) ∙ ap (λ (n : ℕ). replicate n g.T.RawWord.ZERO) count)
    ∙ ap (λ (f : Filter g.row.T.Denot). fresh g.T.RawWord.ZERO f.taps) c.self.view_is
