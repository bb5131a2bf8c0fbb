use Rattle.std.proofs.Common.{◌^◌}
use Rattle.fixed_turns.specs.Series.{cosine_series}
use Rattle.fixed_turns.proofs.Sums.{no_units, one_rounded, sum_at}
use Rattle.fixed_turns.proofs.sines.cosine_of.Goals as goal

pub returns : goal.returns
returns c = λ y u.
    let v = c.cosine.result in
    let f = c.args.frac in
    sum_at cosine_series c.args.bits f (2 ^ f) c.rounded.result v y c.requires.frac (λ n. c.cosine.ensures.value y n u) c.cosine.ensures.most c.rounded.ensures
    (λ none. one_rounded f v c.rounded.result c.requires.frac (c.cosine.ensures.none (no_units c.args.x y u none)) c.rounded.ensures)
