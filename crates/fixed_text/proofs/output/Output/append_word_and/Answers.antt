use Rattle.std.proofs.Common.{◌≡◌, ◌<ℤ◌, ◌++◌, ◌∷◌, ℕ, List, [], pos, ap, subst, ◌∙◌, rules}
use Rattle.std.specs.Result.{OnOk}
use Rattle.fixed_word.specs.Decimal.{natural_text}
use Rattle.fixed_digits.proofs.Placed.{length_natural_u64}
use Rattle.fixed_text.proofs.Signed.{minus_put, room_for_minus, text_below}
use Rattle.fixed_text.proofs.output.Output.append_word_and.Goals as goal

pub overflow_sub-buffer : goal.overflow_sub-buffer
overflow_sub-buffer g c =
    room_for_minus c.decimal_before-digits.new.buffer (natural_text c.magnitude.result) c.decimal_before-digits.result c.args.byte (search rules) c.decimal_before-digits.ensures.digits (length_natural_u64 c.magnitude.result c.magnitude.type_inv)

pub overflow_sub-digits : goal.overflow_sub-digits
overflow_sub-digits g c =
    room_for_minus c.decimal_before-digits.new.buffer (natural_text c.magnitude.result) c.decimal_before-digits.result c.args.byte (search rules) c.decimal_before-digits.ensures.digits (length_natural_u64 c.magnitude.result c.magnitude.type_inv)

pub returns-then-is_below_zero-clause-added : goal.returns-then-is_below_zero-clause-added
returns-then-is_below_zero-clause-added g c =
    let x = g.T.Valued.value c.args.word in
    let m = c.magnitude.result in
    let below : x <ℤ pos 0 = c.is_below_zero.ensures.sign.0 (search rules) in
    let at = c.decimal_before-digits.result in
    let some = room_for_minus c.decimal_before-digits.new.buffer (natural_text m) at c.args.byte (search rules) c.decimal_before-digits.ensures.digits (length_natural_u64 m c.magnitude.type_inv) in
    let text = minus_put c.decimal_before-digits.new.buffer (natural_text m ++ (c.args.byte ∷ [])) at (search rules) some c.decimal_before-digits.ensures.within c.decimal_before-digits.ensures.digits
    ∙ ap (λ (t : List ℕ). t ++ (c.args.byte ∷ [])) (text_below x m below c.magnitude.ensures.magnitude) in
    subst (λ (t : List ℕ). OnOk c.append.result (c.append.new.self ≡ c.args.self.now ++ t)) text c.append.ensures.added
