use Rattle.std.proofs.Common.{◌≡◌, ◌-◌, ◌*◌, ◌^◌, ◌+ℤ◌, pos, refl, ◌∙◌, arith}
use Rattle.std.proofs.lemmas.Int.{ints}
use Rattle.fixed_word.specs.Quotient.{floor_quotient}
use Rattle.fixed_convert.proofs.Cuts.{read_back}
use Rattle.fixed_convert.proofs.Halves.{half_at}
use Rattle.fixed_convert.proofs.Rooms.{power_most, within}
use Rattle.fixed_convert.proofs.quotients.half_added.Goals as goal

pub scaled-requires-clause-room : goal.scaled-requires-clause-room
scaled-requires-clause-room c =
    let b = c.requires.by in
    let p = power_most (c.args.by - 1) (omega arith) in
    within (pos (1 * 2 ^ (c.args.by - 1))) (omega (arith, ints))

pub plus-requires-else-by-eq0 : goal.plus-requires-else-by-eq0
plus-requires-else-by-eq0 c =
    let x = c.args.number in
    let more = c.args.more in
    let n = read_back x x c.ranges.number refl in
    let m = read_back more more c.ranges.more refl in
    let r = read_back c.scaled.result (pos (1 * 2 ^ (c.args.by - 1))) (record { sfits = c.scaled.type_inv }) c.scaled.ensures in
    let h = read_back c.plus.result (pos (1 * 2 ^ (c.args.by - 1)) +ℤ more) (record { sfits = c.plus.type_inv }) (rw (r, m) at c.plus.ensures) in
    let b = c.requires.by in
    let p = power_most (c.args.by - 1) (omega arith) in
    let s = c.requires.small in
    let t = c.requires.more.0 in
    let u = c.requires.more.1 in
    rw (n, h) (within (x +ℤ (pos (1 * 2 ^ (c.args.by - 1)) +ℤ more)) (omega (arith, ints)))

pub returns-else-by-eq0 : goal.returns-else-by-eq0
returns-else-by-eq0 c =
    let x = c.args.number in
    let more = c.args.more in
    let d = 2 ^ (c.args.by - 1) in
    let n = read_back x x c.ranges.number refl in
    let m = read_back more more c.ranges.more refl in
    let e : pos (1 * d) ≡ pos d = omega (arith, ints) in
    let r = read_back c.scaled.result (pos d) (record { sfits = c.scaled.type_inv }) (c.scaled.ensures ∙ e) in
    let h = read_back c.plus.result (pos d +ℤ more) (record { sfits = c.plus.type_inv }) (rw (r, m) at c.plus.ensures) in
    let s = read_back c.plus-else-by-eq0.result (x +ℤ (pos d +ℤ more)) (record { sfits = c.plus-else-by-eq0.type_inv }) (rw (n, h) at c.plus-else-by-eq0.ensures) in
    let z = c.if-by-eq0.false in
    read_back c.floored.result (floor_quotient (((x +ℤ x) +ℤ more) +ℤ pos (2 ^ c.args.by)) (2 * 2 ^ c.args.by)) (record { sfits = c.floored.type_inv })
    (rw s at c.floored.ensures ∙ half_at x more c.args.by (omega arith) c.requires.more.0 c.requires.more.1)
