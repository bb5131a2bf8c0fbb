use Rattle.std.proofs.Common.{◌≡◌, ◌+◌, ◌-◌, ◌-ℤ◌, ℤ, pos, subst, arith}
use Rattle.std.proofs.lemmas.Int.{ints}
use Rattle.fixed_word.specs.Standing.{StandsFor}
use Rattle.fixed_kernel.specs.RoundedRows.{rounded_add_prod_at}
use Rattle.fixed_kernel.proofs.rounded_products.add_prod_round_of.Goals as goal

pub returns-then-a_frac-b_frac : goal.returns-then-a_frac-b_frac
returns-then-a_frac-b_frac g c =
    let value = g.T.Valued.value in
    let e : pos (c.args.a_frac + c.args.b_frac - c.args.c_frac) ≡ pos (c.args.a_frac + c.args.b_frac) -ℤ pos c.args.c_frac = omega (arith, ints) in
    subst (λ (s : ℤ). StandsFor value g.T.RawWord.SIGNED g.T.Valued.BITS (rounded_add_prod_at (value c.args.c) (value c.args.a) (value c.args.b) s c.args.rounding) c.add_prod_rounded.result) e c.add_prod_rounded.ensures
