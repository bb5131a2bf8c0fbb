use Rattle.std.proofs.Common.{arith}
use Rattle.std.proofs.lemmas.Int.{ints}
use Rattle.fixed_guide.proofs.Steps.{level_between}
use Rattle.fixed_guide.proofs.filter.low_pass.Goals as goal

pub returns-clause-between : goal.returns-clause-between
returns-clause-between c = level_between c.args.level.bits c.args.sample.bits c.saturating_sub-distance.result.bits c.saturating_add_prod.result.bits c.args.gain.bits c.requires.from_zero c.requires.to_one (omega (arith, ints), omega (arith, ints)) (omega (arith, ints), omega (arith, ints)) c.saturating_sub-distance.ensures c.saturating_add_prod.ensures
