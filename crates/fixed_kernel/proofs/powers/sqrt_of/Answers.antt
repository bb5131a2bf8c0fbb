use Rattle.std.proofs.Common.{arith}
use Rattle.fixed_kernel.proofs.Sqrts.{at_most_64, found}
use Rattle.fixed_kernel.proofs.powers.sqrt_of.Goals as goal

pub scaled_root-requires : goal.scaled_root-requires
scaled_root-requires g c =
    omega (arith, c.requires.frac, at_most_64 g.T.Valued.BITS g.met.T.RawWord.width_law)

pub returns : goal.returns
returns g c =
    let e = found c.args.frac c.magnitude.result c.scaled_root.result (g.T.Valued.value c.args.a) c.requires.sign c.magnitude.ensures.magnitude c.scaled_root.ensures in
    rw e c.outcome_of.ensures
