use Rattle.std.proofs.Common.{◌^◌, ◌*ℤ◌, pos, refl, arith}
use Rattle.std.proofs.lemmas.Nat.{pow_pos}
use Rattle.fixed_word.specs.declared.rounding.Rounding.TheVariants.{Even}
use Rattle.fixed_kernel.specs.Rounded.{rounded}
use Rattle.fixed_convert.proofs.Cuts.{read_back}
use Rattle.fixed_convert.proofs.Nearness.{even_size}
use Rattle.fixed_convert.proofs.Rooms.{power_most, within}
use Rattle.fixed_convert.proofs.multiples.round_ties_even_at.Goals as goal

pub scaled-requires-clause-room : goal.scaled-requires-clause-room
scaled-requires-clause-room c =
    let x = c.args.number in
    let d = 2 ^ c.args.by in
    let n = read_back x x c.ranges.number refl in
    let q = read_back c.rounded_at.result (rounded x (pos d) Even) (record { sfits = c.rounded_at.type_inv }) (rw n at c.rounded_at.ensures) in
    let b = c.requires.by in
    let s = c.requires.small in
    let p = power_most c.args.by (omega arith) in
    let l = even_size x d (pow_pos c.args.by) in
    rw q (within (rounded x (pos d) Even *ℤ pos d) (omega arith))
