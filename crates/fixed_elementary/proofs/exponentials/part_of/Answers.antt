use Rattle.std.proofs.Common.{◌≤◌, ◌^◌, arith, rules}
use Rattle.std.proofs.Math.Nat.{pow-le-pow_right}
use Rattle.fixed_elementary.proofs.Powers.{digits_fit}
use Rattle.fixed_elementary.proofs.exponentials.part_of.Goals as goal

pub overflow_cast-result-3 : goal.overflow_cast-result-3
overflow_cast-result-3 c =
    let fit = digits_fit c.args.exponent c.args.places c.args.digits c.requires.places c.requires.digits in
    let most : 2 ^ c.args.digits ≤ 2 ^ 64 = pow-le-pow_right {n = 2} (omega arith) {i = c.args.digits} {j = 64} c.requires.digits in
    search rules

pub returns-clause-digits : goal.returns-clause-digits
returns-clause-digits c = digits_fit c.args.exponent c.args.places c.args.digits c.requires.places c.requires.digits
