use Rattle.std.proofs.Common.{map}
use Rattle.fixed_guide.proofs.Sines.{never_over, is_below, is_near}
use Rattle.fixed_guide.proofs.sine.sine.Goals as goal

pub unreachable-requires : goal.unreachable-requires
unreachable-requires c =
    never_over c.args.part.bits c.requires.from_zero c.requires.to_one (map (λ k. k.bits) c.coefficients.result) c.coefficients.ensures c.in-Overflow.field-0 (rw c.in-Overflow.is at c.horner.ensures)

pub returns-clause-below : goal.returns-clause-below
returns-clause-below c =
    is_below c.args.part.bits c.requires.from_zero c.requires.to_one (map (λ k. k.bits) c.coefficients.result) c.coefficients.ensures c.in-Value.sine.bits (rw c.in-Value.is at c.horner.ensures)

pub returns-clause-at_most : goal.returns-clause-at_most
returns-clause-at_most c =
    is_near c.args.part.bits c.requires.from_zero c.requires.to_one (map (λ k. k.bits) c.coefficients.result) c.coefficients.ensures c.in-Value.sine.bits (rw c.in-Value.is at c.horner.ensures)
