use Rattle.fixed_kernel.specs.Rows.{exact_signum}
use Rattle.fixed_kernel.proofs.Signs.{moved}
use Rattle.fixed_kernel.proofs.sums.signum_of.Goals as goal

pub returns : goal.returns
returns g c = rw (moved (g.T.Valued.value c.args.a) c.args.frac) at (c.scaled.ensures (exact_signum (g.T.Valued.value c.args.a) 0) c.sign_of.ensures)
