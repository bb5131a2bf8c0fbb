use Rattle.std.proofs.Common.{◌≡◌, sym, arith, suc, ◌-◌}
use mathlib.Core.Bool.{not, beq}
use Rattle.fixed_kernel.proofs.Stepped.{rounded_signed, stepped_small}
use Rattle.fixed_kernel.proofs.wide.Wide.rounded.Goals as goal

pub returns-clause-value : goal.returns-clause-value
returns-clause-value c =
    let x = c.args.self in
    let d = c.args.divisor in
    let s : suc (d.magnitude - 1) ≡ d.magnitude = omega arith in
    let q = c.divided-quotient.ensures.quotient in
    let r = c.divided-quotient.ensures.remainder in
    let e = c.step-more.ensures in
    let v = rounded_signed c.args.rounding x.below_zero d.below_zero x.magnitude d.magnitude c.requires in
    rw (e, s, q, r) (sym v)

pub returns-clause-size : goal.returns-clause-size
returns-clause-size c =
    let x = c.args.self in
    let d = c.args.divisor in
    let s : suc (d.magnitude - 1) ≡ d.magnitude = omega arith in
    let q = c.divided-quotient.ensures.quotient in
    let r = c.divided-quotient.ensures.remainder in
    let e = c.step-more.ensures in
    rw (e, s, q, r) (stepped_small c.args.rounding (not (beq x.below_zero d.below_zero)) x.magnitude d.magnitude c.requires)
