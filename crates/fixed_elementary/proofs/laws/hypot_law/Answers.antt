use Rattle.fixed_elementary.proofs.Rows.{hypot_exchanged, hypot_monotone, hypot_on_axis, hypot_root}
use Rattle.fixed_elementary.proofs.laws.hypot_law.Goals as goal

pub returns : goal.returns
returns c = record { is_root = hypot_root; exchanged = hypot_exchanged; on_axis = hypot_on_axis; monotone = hypot_monotone }
