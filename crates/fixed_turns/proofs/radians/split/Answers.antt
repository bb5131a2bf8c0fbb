use Rattle.std.proofs.Common.{rules, ◌-◌, ◌*◌, ◌%◌, ◌^◌, ◌≤◌, refl, arith}
use Rattle.std.proofs.lemmas.Nat.{pow_pos}
use Rattle.fixed_turns.proofs.Splits.{as_units, doubled, exact_rest}
use Rattle.fixed_turns.proofs.radians.split.Goals as goal

pub returns-then-angle-eq0-clause-value : goal.returns-then-angle-eq0-clause-value
returns-then-angle-eq0-clause-value c = λ p i.
    let m = c.args.magnitude in
    let f = c.args.frac in
    let x = c.from.result * 2 ^ (64 - f) % 2 ^ 128 in
    let e = as_units m f x c.from.result c.requires c.from.ensures (search rules) refl in
    let near : x ≤ 0xc90fffff00000000 = omega (arith, c.split_units-angle.ensures.near, c.if-angle-eq0.true) in
    exact_rest p m f x (2 ^ (65 - f)) (pow_pos (65 - f)) (doubled f c.requires) e (omega (arith, near))

pub returns-else-angle-eq0-clause-value : goal.returns-else-angle-eq0-clause-value
returns-else-angle-eq0-clause-value c = λ p i.
    let m = c.args.magnitude in
    let f = c.args.frac in
    let x = c.from.result * 2 ^ (64 - f) % 2 ^ 128 in
    let e = as_units m f x c.from.result c.requires c.from.ensures (search rules) refl in
    c.split_units-angle.ensures.value p m f (2 ^ (65 - f)) i (doubled f c.requires) (omega (arith, e)) (omega (arith, e))
