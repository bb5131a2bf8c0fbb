use Rattle.std.proofs.Common.{◌^◌}
use Rattle.std.proofs.lemmas.Nat.{pow_pos}
use Rattle.fixed_word.proofs.QuotientLaws.{floor_quotient_is}
use Rattle.fixed_table.specs.Interpolation.{on_line}
use Rattle.fixed_table.proofs.Points.{on_the_line}
use Rattle.fixed_table.proofs.laws.rounding_law.Goals as goal

pub returns : goal.returns
returns c = λ k i part values a b e f small.
    let is = floor_quotient_is (on_line a b k part) (2 ^ k) (pow_pos k) in
    rw (on_the_line k i values part a b e f small) (is.below, is.above)
