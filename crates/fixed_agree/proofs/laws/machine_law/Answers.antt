use Rattle.fixed_agree.proofs.Answered.{projected, projection_of}
use Rattle.fixed_agree.proofs.laws.machine_law.Goals as goal

pub returns : goal.returns
returns c signed n policy op operands result w =
    (projection_of signed n policy op operands result w, projected signed n policy op operands result)
