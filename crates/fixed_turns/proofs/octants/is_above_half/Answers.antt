use Rattle.std.proofs.Common.{◌≡◌, ◌+◌, ◌-◌, ◌*◌, ◌%◌, ◌^◌, arith}
use Rattle.fixed_turns.specs.Sines.{pi, radians}
use Rattle.fixed_turns.proofs.Sides.{half_small, halves}
use Rattle.fixed_turns.proofs.octants.is_above_half.Goals as goal

pub radians_of-requires : goal.radians_of-requires
radians_of-requires c = let h = half_small c.args.frac (2 * c.args.units + 1) c.requires.least c.requires.most c.requires.eighth in omega arith

pub returns-clause-left : goal.returns-clause-left
returns-clause-left c = λ t.
    let f = c.args.frac in
    let h = 2 * c.args.units + 1 in
    let small = half_small f h c.requires.least c.requires.most c.requires.eighth in
    let is : h * 2 ^ (65 - f) % 2 ^ 64 ≡ h * 2 ^ (65 - f) = omega arith in
    let k = halves f c.requires.least c.requires.most in
    record {
      low = λ n m. c.is_left.ensures.left t (radians pi h (f - 2 + 1)) n m (c.radians_of.ensures.value (f - 2 + 1) pi (2 ^ (65 - f)) k (omega arith) (omega arith) h is);
      high = λ n m. c.is_left.ensures.left t (radians (pi + 1) h (f - 2 + 1)) n m (c.radians_of.ensures.value (f - 2 + 1) (pi + 1) (2 ^ (65 - f)) k (omega arith) (omega arith) h is);
    }

pub returns-clause-right : goal.returns-clause-right
returns-clause-right c = λ t.
    let f = c.args.frac in
    let h = 2 * c.args.units + 1 in
    let small = half_small f h c.requires.least c.requires.most c.requires.eighth in
    let is : h * 2 ^ (65 - f) % 2 ^ 64 ≡ h * 2 ^ (65 - f) = omega arith in
    let k = halves f c.requires.least c.requires.most in
    record {
      low = λ n m. c.is_left.ensures.right t (radians pi h (f - 2 + 1)) n m (c.radians_of.ensures.value (f - 2 + 1) pi (2 ^ (65 - f)) k (omega arith) (omega arith) h is);
      high = λ n m. c.is_left.ensures.right t (radians (pi + 1) h (f - 2 + 1)) n m (c.radians_of.ensures.value (f - 2 + 1) (pi + 1) (2 ^ (65 - f)) k (omega arith) (omega arith) h is);
    }
