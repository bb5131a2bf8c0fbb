use Rattle.std.proofs.Common.{ap, ◌∙◌}
use Rattle.fixed_decimal.specs.Decimal.{is_exact_in}
use Rattle.fixed_decimal.proofs.Decided.{tail_is}
use Rattle.fixed_decimal.proofs.Exactness.{exact_seen, seen_even, seen_odd}
use Rattle.fixed_decimal.proofs.reading.is_exact.Goals as goal

pub returns-then-halves-eq0 : goal.returns-then-halves-eq0
returns-then-halves-eq0 c free =
    let tail = tail_is c.sign_of.result.1.now c.in-Ok.point c.smaller.result c.smaller.ensures in
    seen_even c.halves_of-halves.result.0 c.halves_of-halves.result.1 (is_exact_in c.sign_of.result.1.now c.args.frac) c.if-halves-eq0.true
    (exact_seen c.sign_of.result.1.now _ c.in-Ok.point c.args.frac c.halves_of-halves.result.0 c.halves_of-halves.result.1 c.in-Ok.ensures tail c.halves_of-halves.ensures.halves c.halves_of-halves.ensures.rest)
    ∙ ap (λ bs. is_exact_in bs c.args.frac) c.sign_of.ensures.rest

pub returns-else-halves-eq0 : goal.returns-else-halves-eq0
returns-else-halves-eq0 c free =
    let tail = tail_is c.sign_of.result.1.now c.in-Ok.point c.smaller.result c.smaller.ensures in
    seen_odd c.halves_of-halves.result.0 c.halves_of-halves.result.1 (is_exact_in c.sign_of.result.1.now c.args.frac) c.if-halves-eq0.false
    (exact_seen c.sign_of.result.1.now _ c.in-Ok.point c.args.frac c.halves_of-halves.result.0 c.halves_of-halves.result.1 c.in-Ok.ensures tail c.halves_of-halves.ensures.halves c.halves_of-halves.ensures.rest)
    ∙ ap (λ bs. is_exact_in bs c.args.frac) c.sign_of.ensures.rest
