use Rattle.std.proofs.Common.{◌≡◌, ◌-◌, ◌^◌, ◌≤◌, ◌<◌, ℕ, inl, inr, sym, arith}
use Rattle.std.proofs.Math.Nat.{pow-le-pow_right}
use Rattle.fixed_word.specs.Format.{IsWidth}
use Rattle.fixed_word.specs.Quotient.{floor_quotient}
use Rattle.fixed_word.proofs.Wraps.{width_pos, wrap_same}
use Rattle.fixed_table.proofs.Weights.{at_start, sum_fits, value_fits}
use Rattle.fixed_table.specs.Interpolation.{on_line}
use Rattle.fixed_table.proofs.line.interpolate_of.Goals as goal

at_most_64 : (n : ℕ) → IsWidth n → n ≤ 64
at_most_64 n (inl e) = omega (arith, e)
at_most_64 n (inr (inl e)) = omega (arith, e)
at_most_64 n (inr (inr (inl e))) = omega (arith, e)
at_most_64 n (inr (inr (inr e))) = omega (arith, e)

-- a part of a step below the width is a weight that the word holds
small : (n k part : ℕ) → k < n → part < 2 ^ k → part < 2 ^ (n - 1)
small n k part h l = let p = pow-le-pow_right {n = 2} (omega arith) {i = k} {j = n - 1} (omega arith) in omega arith

smaller : (k part : ℕ) → part < 2 ^ k → (part ≡ 0 → ⊥) → 2 ^ k - part < 2 ^ k
smaller k part l some = omega (arith, some)

pub returns-then-part-eq0 : goal.returns-then-part-eq0
returns-then-part-eq0 g c =
    let number = g.T.Valued.value in
    sym (at_start (number c.args.start) (number c.args.end) c.args.step c.args.part c.if-part-eq0.true)

pub power_of_two-requires : goal.power_of_two-requires
power_of_two-requires g c = let w = at_most_64 g.T.Valued.BITS g.met.T.RawWord.width_law in let k = c.requires.step in omega arith

pub weighted-requires : goal.weighted-requires
weighted-requires g c =
    let k = c.args.step in
    let part = c.args.part in
    rw c.power_of_two.ensures (small g.T.Valued.BITS k (2 ^ k - part) c.requires.step (smaller k part c.requires.part c.if-part-eq0.false))

pub plus-sum-requires : goal.plus-sum-requires
plus-sum-requires g c =
    let number = g.T.Valued.value in
    let n = g.T.Valued.BITS in
    let k = c.requires.step in
    let part = c.requires.part in
    let first = rw c.power_of_two.ensures at c.weighted.ensures.product in
    sum_fits g.T.RawWord.SIGNED g.T.Whole.Integer.SIGNED n g.T.Whole.Valued.BITS c.args.step c.args.part (number c.args.start) (number c.args.end) _ _ g.met.T.Arithmetic.whole_sign_law (width_pos n g.met.T.RawWord.width_law) g.met.T.Arithmetic.whole_width_law (omega arith) (omega arith) c.weighted.ensures.in_range c.weighted-2.ensures.in_range first c.weighted-2.ensures.product

pub returns : goal.returns
returns g c =
    let number = g.T.Valued.value in
    let n = g.T.Valued.BITS in
    let s = g.T.RawWord.SIGNED in
    let k = c.requires.step in
    let part = c.requires.part in
    let a = number c.args.start in
    let b = number c.args.end in
    let first = rw c.power_of_two.ensures at c.weighted.ensures.product in
    let fit = value_fits s n c.args.step c.args.part a b (omega arith) c.weighted.ensures.in_range c.weighted-2.ensures.in_range in
    rw (c.cut.ensures, c.floored.ensures, c.plus-sum.ensures, first, c.weighted-2.ensures.product) (wrap_same s n (floor_quotient (on_line a b c.args.step c.args.part) (2 ^ c.args.step)) (width_pos n g.met.T.RawWord.width_law) fit)
