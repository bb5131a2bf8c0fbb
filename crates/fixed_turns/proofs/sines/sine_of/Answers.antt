use Rattle.std.proofs.Common.{◌-◌, ℕ, subst, arith}
use Rattle.fixed_turns.specs.Series.{sine_series}
use Rattle.fixed_turns.specs.inside.Rests.{IsRounded}
use Rattle.fixed_turns.proofs.Sums.{no_units, sum_at, zero_rounded}
use Rattle.fixed_turns.proofs.sines.sine_of.Goals as goal

pub returns-clause-none : goal.returns-clause-none
returns-clause-none c = λ none.
    let round = subst (λ (j : ℕ). IsRounded j (64 - c.args.frac) c.rounded.result) c.from.ensures c.rounded.ensures in
    zero_rounded c.sine.result (64 - c.args.frac) c.rounded.result (c.sine.ensures.none none) round

pub returns-clause-value : goal.returns-clause-value
returns-clause-value c = λ y u.
    let v = c.sine.result in
    let f = c.args.frac in
    let round = subst (λ (j : ℕ). IsRounded j (64 - f) c.rounded.result) c.from.ensures c.rounded.ensures in
    sum_at sine_series c.args.bits f 0 c.rounded.result v y c.requires.frac (λ n. c.sine.ensures.value y n u) (omega arith) round
    (λ none. zero_rounded v (64 - f) c.rounded.result (c.sine.ensures.none (no_units c.args.x y u none)) round)
