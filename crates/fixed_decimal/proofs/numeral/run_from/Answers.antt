use Rattle.std.proofs.Common.{◌+◌, ◌-◌, ◌*◌, get_or, ap, ◌∙◌, sym, arith}
use Rattle.std.specs.Char.{digit_value, is_ascii_digit}
use Rattle.std.proofs.lemmas.List.Sums.{prefix_len-drop_yes}
use Rattle.fixed_digits.proofs.Capping.{digit_value_is}
use Rattle.fixed_decimal.proofs.Runs.{after_more, room_more, small_more}
use Rattle.fixed_decimal.proofs.numeral.run_from.Goals as goal

pub overflow_mul-value : goal.overflow_mul-value
overflow_mul-value c = omega (arith, room_more c.loop-at.value c.loop-at.at c.loop-at.invariant.small (omega (arith, c.requires.room)))

pub overflow_add-value : goal.overflow_add-value
overflow_add-value c =
    let r = room_more c.loop-at.value c.loop-at.at c.loop-at.invariant.small (omega (arith, c.requires.room)) in
    let here = sym c.is_ascii_digit.ensures.value ∙ c.if-is_ascii_digit.true in
    let d = digit_value_is (get_or c.args.bytes.now c.loop-at.at 0) here in
    omega (arith, d.2)

pub loop-at-preserved : goal.loop-at-preserved
loop-at-preserved c =
    let bytes = c.args.bytes.now in
    let at = c.loop-at.at in
    let here = sym c.is_ascii_digit.ensures.value ∙ c.if-is_ascii_digit.true in
    let d = digit_value_is (get_or bytes at 0) here in
    let i = c.loop-at.invariant in
    let run = prefix_len-drop_yes is_ascii_digit bytes at 0 c.loop-at-test.true here in
    record {
      after = omega (arith, i.after);
      within = omega arith;
      so_far = omega (arith, run, i.so_far);
      small = small_more c.loop-at.value (get_or bytes at 0 - 48) at i.small (omega (arith, d.1, d.2));
      value = ap (λ n. c.loop-at.value * 10 + n) (sym d.0) ∙ ap (λ v. v * 10 + digit_value (get_or bytes at 0)) i.value ∙ sym (after_more c.args.before bytes c.args.from at i.after c.loop-at-test.true);
    }
