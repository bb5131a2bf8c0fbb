use Rattle.std.proofs.Common.{arith}
use Rattle.fixed_table.proofs.Points.{on_the_line}
use Rattle.fixed_table.proofs.Weights.{falls, rises}
use Rattle.fixed_table.proofs.laws.between_law.Goals as goal

pub returns-clause-rising : goal.returns-clause-rising
returns-clause-rising c = λ k i part values a b e f small h.
    rw (on_the_line k i values part a b e f small) (rises a b k part (omega arith) h)

pub returns-clause-falling : goal.returns-clause-falling
returns-clause-falling c = λ k i part values a b e f small h.
    rw (on_the_line k i values part a b e f small) (falls a b k part (omega arith) h)
