use Rattle.std.proofs.Common.{◌^◌, ◌*ℤ◌, pos, refl, arith}
use Rattle.std.proofs.lemmas.Nat.{pow_pos}
use Rattle.std.specs.Int.Signed.{lt_z}
use Rattle.fixed_word.specs.Quotient.{floor_quotient}
use Rattle.fixed_convert.proofs.Cuts.{is_below, read_back}
use Rattle.fixed_convert.proofs.Nearness.{zero_past}
use Rattle.fixed_convert.proofs.Rooms.{floor_size, within}
use Rattle.fixed_convert.proofs.quotients.is_nearer_to_zero.Goals as goal

pub scaled-requires-clause-room : goal.scaled-requires-clause-room
scaled-requires-clause-room c =
    let x = c.args.number in
    let q = floor_quotient x (2 ^ c.args.by) in
    let l = floor_size x c.args.by c.requires.small c.requires.by in
    rw (read_back c.args.low q c.ranges.low c.requires.low) (within (q *ℤ pos (2 ^ c.args.by)) (omega arith))

pub returns-then-number-lt0 : goal.returns-then-number-lt0
returns-then-number-lt0 c =
    let x = c.args.number in
    let low = c.args.low in
    let d = 2 ^ c.args.by in
    let n = read_back x x c.ranges.number refl in
    let l = read_back low low c.ranges.low refl in
    let s = read_back c.scaled.result (low *ℤ pos d) (record { sfits = c.scaled.type_inv }) (rw l at c.scaled.ensures) in
    rw (s, n) (zero_past x low d (lt_z (low *ℤ pos d) x) (pow_pos c.args.by) c.requires.low (is_below x c.ranges.number c.if-number-lt0.true) refl)
