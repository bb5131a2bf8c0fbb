use Rattle.std.proofs.Common.{pos, negsuc, arith}
use Rattle.std.proofs.lemmas.Int.{ints}
use Rattle.fixed_policy.proofs.Losses.{loss_bounds, nothing_lost}
use Rattle.fixed_filter.proofs.Alone.{reply_value}
use Rattle.fixed_filter.proofs.laws.output_law.Goals as goal

pub returns-clause-from_zero : goal.returns-clause-from_zero
returns-clause-from_zero c = λ signed n s v ps e.
    let bounds = loss_bounds s (pos 0) ps in
    let low = bounds.0 in
    rw (reply_value signed n (pos s) v ps e) (omega (arith, ints))

pub returns-clause-at_most : goal.returns-clause-at_most
returns-clause-at_most c = λ signed n s v ps e.
    let bounds = loss_bounds s (pos 0) ps in
    let high = bounds.1 in
    rw (reply_value signed n (pos s) v ps e) (omega (arith, ints))

pub returns-clause-exact : goal.returns-clause-exact
returns-clause-exact c = λ signed n t v ps e.
    let same = nothing_lost t (pos 0) ps in
    rw (reply_value signed n (negsuc t) v ps e) (omega (arith, ints))
