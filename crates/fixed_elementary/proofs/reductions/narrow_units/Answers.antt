use Rattle.std.proofs.Common.{◌+◌, ◌-◌, ◌/◌, ◌^◌, ap, arith}
use Rattle.fixed_elementary.proofs.Closing.{digits_moved, units_fit}
use Rattle.fixed_elementary.proofs.reductions.narrow_units.Goals as goal

pub overflow_add-result : goal.overflow_add-result
overflow_add-result c =
    let log = c.args.log in
    let whole = digits_moved log.digits c.args.places 64 c.requires.digits (omega (arith, c.requires.places)) in
    let fits = units_fit log.digits c.args.places log.part (62 - c.args.places) 57 c.requires.digits c.requires.places (omega (arith, c.requires.places)) in
    omega arith

pub returns : goal.returns
returns c =
    let log = c.args.log in
    ap (λ n. n + log.part / 2 ^ (62 - c.args.places)) (digits_moved log.digits c.args.places 64 c.requires.digits (omega (arith, c.requires.places)))
