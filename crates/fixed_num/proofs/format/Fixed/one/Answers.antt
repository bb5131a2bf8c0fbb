use Rattle.std.proofs.Common.{false}
use Rattle.fixed_num.proofs.Ranges.{one_room, one_is}
use Rattle.fixed_num.proofs.format.Fixed.one.Goals as goal

pub overflow_shl-residue : goal.overflow_shl-residue
overflow_shl-residue g c = one_room g.T.RawWord.SIGNED g.T.Valued.BITS g.row.F g.met.T.RawWord.width_law c.requires

pub returns : goal.returns
returns g c = one_is g.T.RawWord.SIGNED g.T.Valued.BITS g.row.F false _ g.met.T.RawWord.width_law c.requires (one_room g.T.RawWord.SIGNED g.T.Valued.BITS g.row.F g.met.T.RawWord.width_law c.requires) c.residue.ensures
