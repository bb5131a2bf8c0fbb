use Rattle.fixed_num.proofs.Roots.{counted}
use Rattle.fixed_num.proofs.format.Fixed.sqrt_counted.Goals as goal

pub returns-clause-root : goal.returns-clause-root
returns-clause-root g c = counted g.T.RawWord.SIGNED g.T.Valued.BITS g.row.F (g.T.Valued.value c.args.self.bits) _ _ _ g.met.T.RawWord.width_law c.to_unsigned.ensures.in_range c.requires.defined c.requires.fits c.to_unsigned.ensures.value c.root.ensures.root c.from_unsigned.ensures
