use Rattle.std.proofs.Common.{◌+◌, ◌%◌, ◌^◌, ◌++◌, List, drop, ℕ, ap, ◌∙◌, arith}
use Rattle.std.proofs.Math.Nat.{one-le-pow, pow-le-pow_right}
use Rattle.std.proofs.lemmas.Nat.{mod_below}
use Rattle.fixed_word.specs.Decimal.{natural_text}
use Rattle.fixed_decimal.proofs.PlacesPut.{places_rest, put_is}
use Rattle.fixed_decimal.proofs.writing.put_digits.Goals as goal

pub nonzero_rem-number : goal.nonzero_rem-number
nonzero_rem-number c = omega (arith, c.ten_to-tens.ensures, one-le-pow c.args.count 10 (omega arith))

pub nonzero_div-result : goal.nonzero_div-result
nonzero_div-result c = omega (arith, c.ten_to-tens.ensures, one-le-pow c.args.count 10 (omega arith))

pub overflow_add-tens : goal.overflow_add-tens
overflow_add-tens c =
    let p = pow-le-pow_right {n = 10} (omega arith) {i = c.args.count} {j = 18} c.requires.count in
    let one = one-le-pow c.args.count 10 (omega arith) in
    let b = mod_below c.args.number c.ten_to-tens.result (omega (arith, c.ten_to-tens.ensures)) in
    omega (arith, c.ten_to-tens.ensures)

pub returns-clause-digits : goal.returns-clause-digits
returns-clause-digits c =
    let n = c.args.number in
    let k = c.args.count in
    let old = c.args.buffer.now in
    let b = mod_below n (10 ^ k) (one-le-pow k 10 (omega arith)) in
    put_is c.decimal_before.new.buffer old c.decimal_before.result c.args.end (n % 10 ^ k) k b (c.decimal_before.ensures.digits ∙ ap (λ (t : ℕ). natural_text (t + n % t) ++ drop c.args.end old) c.ten_to-tens.ensures) c.decimal_before.ensures.within c.requires.within c.decimal_before.auto.buffer
    ∙ ap (λ (ds : List ℕ). ds ++ drop c.args.end old) (places_rest n k)
