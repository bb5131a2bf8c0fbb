use Rattle.std.proofs.Common.{◌^◌, ◌*ℤ◌, pos, refl, arith}
use Rattle.fixed_convert.specs.WholeNumber.{nearest_or_further}
use Rattle.fixed_convert.proofs.Cuts.{read_back}
use Rattle.fixed_convert.proofs.Nearness.{further_size}
use Rattle.fixed_convert.proofs.Rooms.{power_most, within}
use Rattle.fixed_convert.proofs.multiples.round_at.Goals as goal

pub scaled-requires-clause-room : goal.scaled-requires-clause-room
scaled-requires-clause-room c =
    let x = c.args.number in
    let d = 2 ^ c.args.by in
    let n = read_back x x c.ranges.number refl in
    let q = read_back c.nearest_at.result (nearest_or_further x d) (record { sfits = c.nearest_at.type_inv }) (rw n at c.nearest_at.ensures) in
    let b = c.requires.by in
    let s = c.requires.small in
    let p = power_most c.args.by (omega arith) in
    let l = further_size x d in
    rw q (within (nearest_or_further x d *ℤ pos d) (omega arith))
