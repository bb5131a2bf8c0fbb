use Rattle.std.proofs.Common.{◌+◌, ◌-◌, ◌*◌, ◌^◌, ◌<◌, ◌≤◌, ℕ, ap, ◌∙◌, subst, pos, arith, rules}
use Rattle.std.specs.Prelude.{neg_ℤ, unsigned_abs}
use Rattle.fixed_natural.specs.Logs.{log_room}
use Rattle.fixed_natural.specs.inside.Scaling.{IsQuotient}
use Rattle.fixed_natural.proofs.Enclosed.{down_by, few, few_places, up_by}
use Rattle.fixed_natural.proofs.logarithms.log_of.Goals as goal

pub overflow_add-units : goal.overflow_add-units
overflow_add-units g c =
    let e = c.guard_of-guard.ensures ∙ ap (λ (n : ℕ). log_room n + 1) c.BITS.ensures in
    let places = few_places c.args.frac g.T.Valued.BITS c.guard_of-guard.result g.met.T.RawWord.width_law c.requires.frac e in
    let most = few (c.args.frac + c.guard_of-guard.result) places.1 in
    let d = c.enclosed_log2-units.ensures.digits in
    omega arith

pub returns-then-less-units : goal.returns-then-less-units
returns-then-less-units g c =
    let f = c.args.frac in
    let d = c.guard_of-guard.result in
    let s = c.enclosed_log2-units.result in
    let u = c.scaled.result in
    let e = c.guard_of-guard.ensures ∙ ap (λ (n : ℕ). log_room n + 1) c.BITS.ensures in
    let places = few_places f g.T.Valued.BITS d g.met.T.RawWord.width_law c.requires.frac e in
    let is = c.in_places-less.ensures in
    let less : f * 2 ^ (f + d) ≤ s + 2 = omega arith in
    let x = subst (λ (n : ℕ). IsQuotient ((s + 2 - n) * (c.args.factor + 1)) (2 ^ 128 * 2 ^ d) u) is c.scaled.ensures in
    (pos u, λ p q o i. up_by (unsigned_abs (g.T.Valued.value c.args.a)) c.magnitude.result f (log_room g.T.Valued.BITS) d s c.args.factor p q u c.magnitude.ensures.magnitude e o places.1 c.requires.factor c.enclosed_log2-units.ensures i less x, c.outcome_of_magnitude.ensures)

pub returns-else-less-units : goal.returns-else-less-units
returns-else-less-units g c =
    let f = c.args.frac in
    let d = c.guard_of-guard.result in
    let s = c.enclosed_log2-units.result in
    let v = c.scaled-else-less-units.result in
    let e = c.guard_of-guard.ensures ∙ ap (λ (n : ℕ). log_room n + 1) c.BITS.ensures in
    let places = few_places f g.T.Valued.BITS d g.met.T.RawWord.width_law c.requires.frac e in
    let is = c.in_places-less.ensures in
    let more : s + 2 < f * 2 ^ (f + d) = let t : s + 2 < c.in_places-less.result = search rules in omega arith in
    let x = subst (λ (n : ℕ). IsQuotient ((n - (s + 2)) * c.args.factor) (2 ^ 128 * 2 ^ d) v) is c.scaled-else-less-units.ensures in
    (neg_ℤ (pos (v + 1)), λ p q o i. down_by (unsigned_abs (g.T.Valued.value c.args.a)) c.magnitude.result f (log_room g.T.Valued.BITS) d s c.args.factor p q v c.magnitude.ensures.magnitude e o places.0 places.1 c.requires.factor c.enclosed_log2-units.ensures i more x, c.outcome_of_magnitude-else-less-units.ensures)
