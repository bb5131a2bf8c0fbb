use Rattle.std.proofs.Common.{◌≡◌, ◌+◌, ◌*◌, ◌-◌, ◌<◌, ◌≤◌, ◌^◌, ℕ, List, drop, take, length, length-drop, length-take, get_or, true, ap, ◌∙◌, sym, arith}
use Rattle.std.specs.Char.{is_ascii_digit}
use Rattle.std.specs.List.{list_all}
use Rattle.std.specs.Str.Parse.{digits_value}
use Rattle.std.proofs.lemmas.List.{get_or-drop, get_or-take}
use Rattle.fixed_digits.proofs.Capping.{digit_value_is}
use Rattle.fixed_digits.proofs.Fronts.{value_grows}
use Rattle.fixed_decimal.proofs.Runs.{digit_here, value_room}
use Rattle.fixed_decimal.proofs.numeral.value_of.Goals as goal

-- the digit at a place of the cut
here : (bytes : List ℕ) (from count at : ℕ) → at < count → get_or (take count (drop from bytes)) at 0 ≡ get_or bytes (from + at) 0
here bytes from count at lt = get_or-take count (drop from bytes) at 0 lt ∙ get_or-drop from bytes at 0

long : (bytes : List ℕ) (from count : ℕ) → from + count ≤ length bytes → length (take count (drop from bytes)) ≡ count
long bytes from count le = omega (arith, length-take count (drop from bytes), length-drop from bytes)

turn : (bytes : List ℕ) (from count at v : ℕ) → from + count ≤ length bytes → list_all is_ascii_digit (take count (drop from bytes)) ≡ true → count ≤ 18 → at < count → v ≡ digits_value 10 (take at (take count (drop from bytes)))
    → (v < 10 ^ 17) × (get_or bytes (from + at) 0 ≤ 57) × (48 ≤ get_or bytes (from + at) 0) × (v * 10 + (get_or bytes (from + at) 0 - 48) ≡ digits_value 10 (take (at + 1) (take count (drop from bytes))))
turn bytes from count at v le digits few lt is =
    let ds = take count (drop from bytes) in
    let l = long bytes from count le in
    let e = here bytes from count at lt in
    let room = value_room ds at digits (omega arith) (omega arith) in
    let digit = digit_here ds at digits (omega arith) in
    let d = digit_value_is (get_or ds at 0) digit in
    (omega (arith, is), omega (arith, d.1, d.2), omega (arith, d.1, d.2), ap (λ b. v * 10 + (b - 48)) (sym e) ∙ value_grows ds at v (omega arith) is digit)

pub overflow_mul-value : goal.overflow_mul-value
overflow_mul-value c =
    let t = turn c.args.bytes.now c.args.from c.args.count c.loop-at.at c.loop-at.value c.requires.within c.requires.digits c.requires.room c.loop-at-test.true c.loop-at.invariant.so_far in
    omega (arith, t.0)

pub overflow_sub-value : goal.overflow_sub-value
overflow_sub-value c =
    let t = turn c.args.bytes.now c.args.from c.args.count c.loop-at.at c.loop-at.value c.requires.within c.requires.digits c.requires.room c.loop-at-test.true c.loop-at.invariant.so_far in
    omega (arith, t.2)

pub overflow_add-value-in-loop-at : goal.overflow_add-value-in-loop-at
overflow_add-value-in-loop-at c =
    let t = turn c.args.bytes.now c.args.from c.args.count c.loop-at.at c.loop-at.value c.requires.within c.requires.digits c.requires.room c.loop-at-test.true c.loop-at.invariant.so_far in
    omega (arith, t.0, t.1)

pub loop-at-preserved : goal.loop-at-preserved
loop-at-preserved c =
    let t = turn c.args.bytes.now c.args.from c.args.count c.loop-at.at c.loop-at.value c.requires.within c.requires.digits c.requires.room c.loop-at-test.true c.loop-at.invariant.so_far in
    record { within = omega arith; so_far = t.3 }
