use Rattle.std.proofs.Common.{◌≡◌, true, false, sym, ap, ◌∙◌, subst}
use Rattle.std.specs.Float.{Float, binary64}
use lib.Ieee.{is_nan, lt, of_bits}
use Rattle.fixed_float.proofs.Beside.{order_of_infinity, order_of_nan}
use Rattle.fixed_float.proofs.compare.beside_infinity.Goals as goal

pub returns-then-is_nan : goal.returns-then-is_nan
returns-then-is_nan g c = λ a f. order_of_nan (g.X.Binary.float c.args.x) a f (ap is_nan (sym c.widened-wide.ensures) ∙ sym c.if-is_nan.ensures.value)

pub returns-then-wide : goal.returns-then-wide
returns-then-wide g c = λ a f.
    order_of_infinity (g.X.Binary.float c.args.x) a f true c.requires (ap is_nan (sym c.widened-wide.ensures) ∙ sym c.if-is_nan.ensures.value)
    (subst (λ (y : Float). lt y (of_bits binary64 0) ≡ true) c.widened-wide.ensures c.if-wide.true)

pub returns-else-wide : goal.returns-else-wide
returns-else-wide g c = λ a f.
    order_of_infinity (g.X.Binary.float c.args.x) a f false c.requires (ap is_nan (sym c.widened-wide.ensures) ∙ sym c.if-is_nan.ensures.value)
    (subst (λ (y : Float). lt y (of_bits binary64 0) ≡ false) c.widened-wide.ensures c.if-wide.false)
