use Rattle.std.proofs.Common.{◌≡◌, ◌<◌, ◌+◌, ◌*◌, ◌∙◌, ℕ, get_or, refl, ap, sym, arith}
use Rattle.fixed_machine.proofs.QuickText.{copied_byte, register_one, register_shown}
use Rattle.fixed_machine.proofs.quick.register_before.Goals as goal

pub returns-then-number-from : goal.returns-then-number-from
returns-then-number-from c =
    let bytes = c.args.bytes.now in
    let at = c.args.at in
    let copy = c.copy_from_slice.new.self in
    let start : at + 0 ≡ at = omega arith in
    let fits : (i : ℕ) → get_or bytes i 0 < 256 = λ i. omega (arith, c.type_inv.bytes i) in
    let byte : (i : ℕ) → i < 4 → get_or copy i 0 ≡ get_or bytes (at + i) 0 = λ i small. copied_byte bytes copy at i c.copy_from_slice.ensures.after small in
    let value : c.from_le_bytes.result ≡ get_or bytes (at + 0) 0 + (get_or bytes (at + 1) 0 + (get_or bytes (at + 2) 0 + get_or bytes (at + 3) 0 * 256) * 256) * 256 =
    omega (arith, c.from_le_bytes.ensures, byte 0 (omega arith), byte 1 (omega arith), byte 2 (omega arith), byte 3 (omega arith)) in
    let shows =
    register_shown (get_or bytes (at + 0) 0) (get_or bytes (at + 1) 0) (get_or bytes (at + 2) 0) (get_or bytes (at + 3) 0) c.args.separator c.from_le_bytes.result c.from_le_bytes-least.result _ c.from.result c.args.count
    (fits (at + 0)) (fits (at + 1)) (fits (at + 2)) (fits (at + 3)) (omega arith) value (omega (arith, c.from_le_bytes-least.ensures)) refl (omega (arith, c.if-above-eq0.true)) (omega (arith, c.if-number-from.true)) (c.from.ensures ∙ c.min.ensures) in
    (shows.few, register_one bytes at _ c.args.separator c.requires (ap (λ k. get_or bytes k 0) (sym start) ∙ shows.letter) shows.digit shows.small shows.separator)
