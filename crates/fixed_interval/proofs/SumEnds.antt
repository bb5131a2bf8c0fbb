-- The ends of a sum and of a difference hold the sums and the differences, and are narrower where the operands are.
use Rattle.std.proofs.Common.{◌≡◌, ◌-ℤ◌, ◌*ℤ◌, ℕ, ℤ, pos, neg_ℤ, arith}
use Rattle.std.proofs.lemmas.Int.{ints}
use Rattle.fixed_word.proofs.Wraps.{plus_times}
use Rattle.fixed_interval.specs.Ends.{Ends, difference_of, sum_of}
use Rattle.fixed_interval.specs.Containment.{HoldsDifferences, HoldsSums, IsWithin}
use Rattle.fixed_interval.proofs.Lines.{neg_times}

pub holds_sums : (a b : Ends) → HoldsSums a b (sum_of a b)
holds_sums a b x y d h i j =
    let p = i.from_low in
    let q = i.to_high in
    let r = j.from_low in
    let s = j.to_high in
    record { from_low = omega (arith, ints, plus_times a.low b.low d); to_high = omega (arith, ints, plus_times a.high b.high d) }

minus_times : (a b : ℤ) (d : ℕ) → (a -ℤ b) *ℤ pos d ≡ a *ℤ pos d -ℤ b *ℤ pos d
minus_times a b d = omega (arith, ints, plus_times a (neg_ℤ b) d, neg_times b (pos d))

pub holds_differences : (a b : Ends) → HoldsDifferences a b (difference_of a b)
holds_differences a b x y d h i j =
    let p = i.from_low in
    let q = i.to_high in
    let r = j.from_low in
    let s = j.to_high in
    record { from_low = omega (arith, ints, minus_times a.low b.high d); to_high = omega (arith, ints, minus_times a.high b.low d) }

pub sum_within : (a b c d : Ends) → IsWithin c a → IsWithin d b → IsWithin (sum_of c d) (sum_of a b)
sum_within a b c d v w = record { from_low = omega (arith, ints); ordered = omega (arith, ints); to_high = omega (arith, ints) }

pub difference_within : (a b c d : Ends) → IsWithin c a → IsWithin d b → IsWithin (difference_of c d) (difference_of a b)
difference_within a b c d v w = record { from_low = omega (arith, ints); ordered = omega (arith, ints); to_high = omega (arith, ints) }
