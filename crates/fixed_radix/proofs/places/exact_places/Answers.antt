use Rattle.std.proofs.Common.{◌≡◌, ◌==◌, ◌%◌, ◌^◌, ◌*◌, ◌≤◌, true, ap, sym, ◌∙◌, arith}
use Rattle.std.proofs.lemmas.Nat.{mul-le}
use Rattle.fixed_radix.proofs.Units.{fewest, finer, test_zero}
use Rattle.fixed_radix.proofs.places.exact_places.Goals as goal

pub returns-else-not-is_exact-clause-places : goal.returns-else-not-is_exact-clause-places
returns-else-not-is_exact-clause-places c =
    let i = c.loop-places.invariant in
    sym (fewest c.args.bits c.args.magnitude c.args.frac c.loop-places.places i.within (sym c.is_exact.ensures.value ∙ c.if-not-is_exact.false) i.missed)

pub returns-after-loop-places-clause-places : goal.returns-after-loop-places-clause-places
returns-after-loop-places-clause-places c =
    let i = c.loop-places.invariant in
    let p = mul-le 1 c.loop-places.places c.args.bits c.loop-places.places c.requires.bits.0 (omega arith) in
    sym (fewest c.args.bits c.args.magnitude c.args.frac c.loop-places.places i.within (ap (λ n. n == 0) (finer true c.args.magnitude c.args.frac (c.args.bits * c.loop-places.places) (omega (arith, p))).1) i.missed)

pub returns-after-loop-places-clause-exact : goal.returns-after-loop-places-clause-exact
returns-after-loop-places-clause-exact c =
    let p = mul-le 1 c.loop-places.places c.args.bits c.loop-places.places c.requires.bits.0 (omega arith) in
    (finer true c.args.magnitude c.args.frac (c.args.bits * c.loop-places.places) (omega (arith, p))).1
