use Rattle.std.proofs.Common.{◌≡◌, ap, refl, ◌∙◌}
use Rattle.fixed_word.specs.Format.{clamp, highest, lowest}
use Rattle.fixed_word.proofs.Nearest.{clamp_in_range}
use Rattle.fixed_word.proofs.Wraps.{width_pos, wrap_same}
use Rattle.fixed_convert.proofs.Cuts.{read_back}
use Rattle.fixed_convert.proofs.fitting.clamped.Goals as goal

pub returns : goal.returns
returns g c =
    let s = g.T.RawWord.SIGNED in
    let n = g.T.Valued.BITS in
    let x = c.args.number in
    let value = g.T.Valued.value in
    let number = read_back x x c.ranges.number refl in
    let least = read_back c.to_wide.result (lowest s n) (record { sfits = c.to_wide.type_inv }) (c.to_wide.ensures.value ∙ ap value c.MIN.ensures ∙ g.met.T.RawWord.min_law) in
    let most = read_back c.to_wide-2.result (highest s n) (record { sfits = c.to_wide-2.type_inv }) (c.to_wide-2.ensures.value ∙ ap value c.MAX.ensures ∙ g.met.T.RawWord.max_law) in
    let held : c.nearest_from.result ≡ clamp s n x = rw (number, least, most) at c.nearest_from.ensures in
    rw (read_back c.nearest_from.result (clamp s n x) (record { sfits = c.nearest_from.type_inv }) held) at c.from_wide.ensures
    ∙ wrap_same s n (clamp s n x) (width_pos n g.met.T.RawWord.width_law) (clamp_in_range s n x)
