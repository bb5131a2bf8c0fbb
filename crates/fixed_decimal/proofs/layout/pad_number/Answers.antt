use Rattle.std.proofs.Common.{◌≡◌, ◌-◌, ◌∙◌, [], ap, refl, if◌then◌else◌, arith}
use Rattle.std.specs.Fmt.{formatter_spec, padding_before, sign_text_with}
use Rattle.fixed_decimal.proofs.Laid.{chosen_first, chosen_second, filled_with, laid_out, width_is}
use Rattle.fixed_decimal.proofs.layout.pad_number.Goals as goal
use Rattle.fixed_decimal.proofs.layout.pad_number.Goals.{then-is_zero_padded, else-is_zero_padded, then-is_zero_padded-2, else-is_zero_padded-2}

pub returns : goal.returns
returns g c flush ok =
    let s = formatter_spec c.args.f.now in
    let z = c.sign_aware_zero_pad-is_zero_padded.ensures in
    let padding = c.saturating_sub-padding.result in
    let w1 = c.in_ok-write_repeated.ensures flush refl in
    let w2 = c.in_ok-write_str.ensures.styled w1.flush refl in
    let wp = c.in_ok-write_str-2.ensures.styled w2.flush refl in
    let w3 = c.in_ok-write_repeated-2.ensures wp.flush refl in
    let w4 = c.in_ok-write_str-3.ensures.styled w3.flush refl in
    let w5 = c.in_ok-write_repeated-3.ensures w4.flush refl in
    let w6 = c.write_repeated-4.ensures w5.flush ok in
    let plus = c.sign_plus.ensures.value in
    let sign = c.sign_shown-sign.ensures ∙ ap (λ b. sign_text_with b c.args.below_zero) plus in
    let base = c.prefix_shown-base.ensures ∙ ap (λ b. if b then c.args.prefix.now else []) c.alternate.ensures.value in
    let width = width_is c.unwrap_or-width.result c.width.result s.width c.unwrap_or-width.ensures c.width.ensures.value in
    let before : c.if-is_zero_padded-2.before ≡ (if s.zero then 0 else padding_before s padding 3) = elim c.if-is_zero_padded-2.branch [
      | then-is_zero_padded-2 w ↦ w.before-is ∙ chosen_first c.sign_aware_zero_pad-is_zero_padded.result s.zero 0 (padding_before s padding 3) z w.if-is_zero_padded-2.true
      | else-is_zero_padded-2 w ↦ w.before-is ∙ w.fill_before-before.ensures.value ∙ chosen_second c.sign_aware_zero_pad-is_zero_padded.result s.zero 0 (padding_before s padding 3) z w.if-is_zero_padded-2.false
    ] in
    let inner : c.if-is_zero_padded.inner ≡ (if s.zero then padding else 0) = elim c.if-is_zero_padded.branch [
      | then-is_zero_padded w ↦ w.inner-is ∙ chosen_first c.sign_aware_zero_pad-is_zero_padded.result s.zero padding 0 z w.if-is_zero_padded.true
      | else-is_zero_padded w ↦ w.inner-is ∙ chosen_second c.sign_aware_zero_pad-is_zero_padded.result s.zero padding 0 z w.if-is_zero_padded.false
    ] in
    laid_out g.W.Write.write_str_gives c.args.f.now _ _ _ _ _ _ c.write_repeated-4.new.f c.args.below_zero c.sign_shown-sign.result.now c.args.prefix.now c.prefix_shown-base.result.now c.args.digits.now c.args.zeros c.if-is_zero_padded-2.before c.if-is_zero_padded.inner (padding - c.if-is_zero_padded-2.before - c.if-is_zero_padded.inner) padding
    sign c.requires base (omega (arith, c.saturating_sub-padding.ensures, c.saturating_sub-2.ensures, c.saturating_sub-room.ensures, c.saturating_sub.ensures, width)) before inner refl
    (filled_with _ _ _ _ _ _ c.fill-fill.ensures w1) w2 wp w3 w4 w5 (filled_with _ _ _ _ _ _ c.fill-fill.ensures w6)
