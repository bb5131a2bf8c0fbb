use Rattle.fixed_elementary.proofs.Rows.{recip_monotone, recip_root_of, recip_unique}
use Rattle.fixed_elementary.proofs.laws.recip_sqrt_law.Goals as goal

pub returns : goal.returns
returns c = record { is_recip_root = recip_root_of; unique = recip_unique; monotone = recip_monotone }
