use Rattle.fixed_word.specs.Format.{with_sign}
use Rattle.fixed_turns.proofs.sines.outcome_at.Goals as goal

pub returns : goal.returns
returns g c =
    let s = c.sine_at.result in
    let near = c.sine_at.ensures in
    (with_sign s.below_zero s.magnitude, (rw c.BITS.ensures at near), c.outcome_of_signed.ensures)
