use Rattle.std.proofs.Common.{◌%◌, ◌^◌, ap, arith}
use Rattle.std.proofs.Math.Nat.{one-le-pow, pow-le-pow_right}
use Rattle.std.proofs.lemmas.Nat.{mod_below, one_shl}
use Rattle.fixed_radix.proofs.digits.last_digit.Goals as goal

pub returns-clause-small : goal.returns-clause-small
returns-clause-small c =
    let b = mod_below c.args.number (2 ^ c.args.bits) (one-le-pow c.args.bits 2 (omega arith)) in
    let p = pow-le-pow_right {n = 2} (omega arith) {i = c.args.bits} {j = 4} c.requires in
    let e = ap (λ n. c.args.number % n) (one_shl c.args.bits 128 (omega (arith, c.requires))) in
    omega (arith, b, p, e)
