use Rattle.fixed_num.proofs.Sized.{power_tells}
use Rattle.std.proofs.Common.{◌≡◌, pos, arith}
use Rattle.std.proofs.lemmas.Int.{ints}
use Rattle.fixed_num.proofs.Ranges.{from_zero}
use Rattle.fixed_num.proofs.format.Fixed.is_power_of_two.Goals as goal

pub returns-then-magnitude-gt0 : goal.returns-then-magnitude-gt0
returns-then-magnitude-gt0 g c =
    let e = c.magnitude-magnitude.ensures.magnitude in
    let z = from_zero g.T.RawWord.SIGNED g.T.Valued.BITS (g.T.Valued.value c.args.self.bits) g.met.T.UnsignedWord.sign_law c.magnitude-magnitude.ensures.in_range in
    let v : g.T.Valued.value c.args.self.bits ≡ pos c.magnitude-magnitude.result = omega (arith, ints) in
    power_tells c.magnitude-magnitude.result c.highest_power.result (g.T.Valued.value c.args.self.bits) v c.highest_power.ensures
