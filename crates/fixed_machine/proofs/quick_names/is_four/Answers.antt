use Rattle.std.proofs.Common.{arith}
use Rattle.std.specs.Int.{w32}
use Rattle.std.proofs.lemmas.Nat.{le_bytes_4}
use Rattle.fixed_machine.proofs.QuickText.{copied_is}
use Rattle.fixed_machine.proofs.quick_names.is_four.Goals as goal

pub returns : goal.returns
returns c same =
    copied_is w32 4 le_bytes_4 c.args.bytes.now c.args.text.now c.copy_from_slice.new.self c.copy_from_slice-2.new.self c.args.at c.args.from c.from_le_bytes.result c.from_le_bytes-2.result
    (λ i. omega (arith, c.type_inv.bytes i)) (λ i. omega (arith, c.type_inv.text i))
    c.copy_from_slice.ensures.len c.copy_from_slice.ensures.after c.copy_from_slice-2.ensures.len c.copy_from_slice-2.ensures.after
    c.from_le_bytes.ensures c.from_le_bytes-2.ensures (grind (arith, same))
