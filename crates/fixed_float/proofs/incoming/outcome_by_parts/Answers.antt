use Rattle.std.proofs.Common.{◌≡◌, ◌+◌, ◌*◌, ◌^◌, pos}
use Rattle.fixed_word.specs.Format.{with_sign}
use Rattle.fixed_kernel.specs.Rounded.{rounded}
use Rattle.std.specs.Prelude.{None}
use Rattle.fixed_float.specs.Rows.{units_of_float}
use Rattle.fixed_float.proofs.Rows.{no_row, row_of_parts}
use Rattle.fixed_float.proofs.incoming.outcome_by_parts.Goals as goal

pub returns : goal.returns
returns g c =
    let p = c.in_ok-parts.parts in (
      rounded (with_sign p.below_zero (p.digits * 2 ^ (p.scale + c.args.frac))) (pos (2 ^ 1074)) c.args.rounding,
      row_of_parts c.args.x p c.args.frac c.args.rounding c.in_ok-parts.ensures,
      c.outcome_of_parts.ensures,
    )

pub returns-in_err-parts : goal.returns-in_err-parts
returns-in_err-parts g c =
    let none : units_of_float c.args.x c.args.frac c.args.rounding ≡ None = no_row c.args.x c.args.frac c.args.rounding c.in_err-parts.ensures in
    rw c.from_residual.ensures none
