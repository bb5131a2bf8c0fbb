use Rattle.std.proofs.Common.{◌≡◌, ◌==◌, ◌%◌, ◌^◌, ◌*◌, ◌-◌, nat_le, true, sym, ap, ◌∙◌, arith}
use Rattle.std.proofs.lemmas.Bool.Decides.{nat_tests}
use Rattle.std.proofs.lemmas.Nat.{one_shl}
use Rattle.fixed_radix.proofs.Units.{coarser_exact, finer}
use Rattle.fixed_radix.proofs.places.is_exact.Goals as goal

pub returns-then-shift-frac-clause-value : goal.returns-then-shift-frac-clause-value
returns-then-shift-frac-clause-value c =
    let e : nat_le c.args.frac c.args.shift ≡ true = grind (arith, nat_tests, c.if-shift-frac.true) in
    e ∙ sym (ap (λ n. n == 0) (finer true c.args.magnitude c.args.frac c.args.shift c.if-shift-frac.true).1)

pub returns-else-shift-frac-clause-value : goal.returns-else-shift-frac-clause-value
returns-else-shift-frac-clause-value c =
    let h = c.args.frac - c.args.shift in
    ap (λ n. n % ((1 * 2 ^ h) % 2 ^ 128) == 0) c.from.ensures
    ∙ ap (λ d. c.args.magnitude % d == 0) (one_shl h 128 (omega (arith, c.requires)))
    ∙ sym (coarser_exact c.args.magnitude c.args.frac c.args.shift (omega (arith, c.if-shift-frac.false)))
