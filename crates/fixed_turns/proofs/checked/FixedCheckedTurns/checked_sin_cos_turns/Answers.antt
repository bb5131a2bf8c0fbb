use Rattle.fixed_turns.proofs.Pairs.{both_are}
use Rattle.fixed_turns.proofs.checked.FixedCheckedTurns.checked_sin_cos_turns.Goals as goal

pub returns : goal.returns
returns g c =
    let s = c.sin_cos_turns_of-sine.ensures.sine in
    let t = c.sin_cos_turns_of-sine.ensures.cosine in
    (s.0, t.0, s.1, t.1, both_are c.both_numbers.ensures (c.checked_number.ensures s.0 s.2) (c.checked_number-2.ensures t.0 t.2))
