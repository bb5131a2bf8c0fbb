use Rattle.std.proofs.Common.{◌≡◌, ◌<◌, ◌+◌, ◌-◌, ◌/◌, ◌%◌, ◌^◌, ◌++◌, ℕ, refl, drop, ap, sym, ◌∙◌, arith}
use Rattle.fixed_word.specs.Decimal.{natural_text}
use Rattle.fixed_digits.specs.inside.Digits.{eight_digits}
use Rattle.fixed_digits.proofs.Placed.{joined, length_natural_u64}
use Rattle.fixed_digits.proofs.Shown.{length_eights, more_eights}
use Rattle.fixed_digits.proofs.written.decimal_before.Goals as goal

pub loop-rest-init : goal.loop-rest-init
loop-rest-init c =
    let small : c.args.number < 2 ^ 64 = omega arith in
    record {
      digits = refl;
      room = omega (arith, length_natural_u64 c.args.number small, c.requires.room);
      within = omega arith;
    }

pub overflow_sub-at : goal.overflow_sub-at
overflow_sub-at c = omega (arith, length_eights c.loop-rest.rest c.loop-rest-test.true, c.loop-rest.invariant.room)

pub loop-rest-preserved : goal.loop-rest-preserved
loop-rest-preserved c =
    let n = c.loop-rest.rest in
    let longer = length_eights n c.loop-rest-test.true in
    let back : c.loop-rest.at - 8 + 8 ≡ c.loop-rest.at = omega (arith, longer, c.loop-rest.invariant.room) in
    let behind = c.put_eight.ensures ∙ ap (λ (i : ℕ). eight_digits (n % 100000000) ++ drop i c.loop-rest.buffer) back in
    record {
      digits = c.loop-rest.invariant.digits ∙ sym (joined (natural_text n) (natural_text (n / 100000000)) (eight_digits (n % 100000000)) _ (drop c.loop-rest.at c.loop-rest.buffer) (more_eights n c.loop-rest-test.true) behind);
      room = omega (arith, longer, c.loop-rest.invariant.room);
      within = omega (arith, c.loop-rest.invariant.within);
    }
