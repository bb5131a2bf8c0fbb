use Rattle.std.proofs.Common.{◌^◌}
use Rattle.std.proofs.lemmas.Nat.{pow_pos}
use Rattle.fixed_convert.proofs.Wholes.{ceil_between, floor_between, further, near}
use Rattle.fixed_convert.proofs.laws.whole_law.Goals as goal

pub returns-clause-floor : goal.returns-clause-floor
returns-clause-floor c = floor_between

pub returns-clause-ceil : goal.returns-clause-ceil
returns-clause-ceil c = ceil_between

pub returns-clause-round : goal.returns-clause-round
returns-clause-round c = λ a f. near a (2 ^ f) (pow_pos f)

pub returns-clause-tie : goal.returns-clause-tie
returns-clause-tie c = λ a f e. further a (2 ^ f) (pow_pos f) e
