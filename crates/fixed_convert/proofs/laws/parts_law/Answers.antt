use Rattle.std.proofs.Common.{arith}
use Rattle.std.proofs.lemmas.Int.{ints}
use Rattle.fixed_convert.specs.WholeNumber.{exact_floor}
use Rattle.fixed_convert.proofs.Wholes.{floor_between}
use Rattle.fixed_convert.proofs.laws.parts_law.Goals as goal

pub returns-clause-sum : goal.returns-clause-sum
returns-clause-sum c = λ a f. (let w = exact_floor a f in omega (arith, ints))

pub returns-clause-part : goal.returns-clause-part
returns-clause-part c = λ a f. (
    let b = floor_between a f in
    let low = b.0 in
    let high = b.1 in
    (omega (arith, ints), omega (arith, ints)))
