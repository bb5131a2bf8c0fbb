use Rattle.std.proofs.Common.{◌-◌, arith}
use Rattle.std.proofs.lemmas.Int.{ints}
use Rattle.fixed_elementary.proofs.Reading.{normal}
use Rattle.fixed_elementary.proofs.mantissas.zeros_of.Goals as goal

pub returns : goal.returns
returns c =
    let z = c.leading_zeros.result in
    let v = c.leading_zeros.ensures.value in
    let few = v.0 in
    let low = v.1 in
    let high = v.2 in
    let n = normal c.args.a z (64 - z) (omega arith) (omega arith) (omega (arith, ints)) (omega (arith, ints)) in
    record { few = n.0; below = n.1; above = n.2 }
