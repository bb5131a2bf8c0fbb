use Rattle.fixed_convert.proofs.Monotone.{unsigned_room, wider_room}
use Rattle.fixed_convert.proofs.laws.wider_law.Goals as goal

pub returns-clause-same_sign : goal.returns-clause-same_sign
returns-clause-same_sign c = wider_room

pub returns-clause-unsigned : goal.returns-clause-unsigned
returns-clause-unsigned c = unsigned_room
