use Rattle.std.proofs.Common.{◌+◌, ◌-◌, ◌++◌, List, [], ℕ, Option, Bool, nat_abs, replicate, subst, ap, ◌∙◌, arith}
use Rattle.std.specs.Option.{unwrap_or}
use Rattle.std.specs.Fmt.{DisplaysOnOk, DisplaysStyledOnOk, HasWritten, WritesStyledOnOk, formatter_spec, padded_integral, spec_precision}
use Rattle.fixed_word.specs.declared.rounding.Rounding.TheVariants.{Even}
use Rattle.fixed_kernel.proofs.Alikes.{width_at_most}
use Rattle.fixed_decimal.proofs.Laid.{none_counted}
use Rattle.fixed_decimal.specs.Text.{after_sign, magnitude_text, shortest, to_places}
use Rattle.fixed_num.proofs.Prints.{all_shown, below_is, no_precision, plain_is, plain_written, styled_is}
use Rattle.fixed_num.proofs.display.FixedDisplay.fmt.Goals as goal

pub returns-in-Ok-clause-styled : goal.returns-in-Ok-clause-styled
returns-in-Ok-clause-styled g c =
    let a = g.T.Valued.value c.args.self.now.bits in
    let f = g.row.F in
    let start = c.write_decimal-start.result in
    let shown = c.places_for-shown.result in
    let digits = c.in-Ok.digits.now ++ replicate (shown - c.min-places.result) 48 in
    let spec = formatter_spec c.args.f.now in
    let s = c.is_below_zero-below_zero.ensures.sign in
    let below = below_is c.is_below_zero-below_zero.result a s.0 s.1 in
    let all = all_shown a f c.min-places.result shown start (start + c.from.result) c.is_below_zero-below_zero.result c.write_decimal-start.new.buffer c.in-Ok.digits.now (omega (arith, c.if-BITS.false, c.BITS.ensures, width_at_most g.T.Valued.BITS g.met.T.RawWord.width_law)) c.min-places.ensures c.write_decimal-start.array_long below (ap (λ k. start + k) c.from.ensures) c.write_decimal-start.ensures.text c.in-Ok.ensures.cases.0 in
    let places = c.places_for-shown.ensures ∙ ap (λ p. unwrap_or p (shortest a f)) c.precision.ensures.value in
    subst (λ (o : Option (List ℕ)). DisplaysStyledOnOk g.W.Write.write_str_gives c.args.f.now c.pad_number.result o c.pad_number.new.f)
    (styled_is (padded_integral spec) (spec_precision spec) a f g.T.Valued.BITS shown c.is_below_zero-below_zero.result digits (omega (arith, c.if-BITS.false, c.BITS.ensures)) below places all)
    c.pad_number.ensures

pub returns-in-Ok-clause-writes : goal.returns-in-Ok-clause-writes
returns-in-Ok-clause-writes g c =
    let a = g.T.Valued.value c.args.self.now.bits in
    let f = g.row.F in
    let start = c.write_decimal-start.result in
    let shown = c.places_for-shown.result in
    let digits = c.in-Ok.digits.now ++ replicate (shown - c.min-places.result) 48 in
    let s = c.is_below_zero-below_zero.ensures.sign in
    let below = below_is c.is_below_zero-below_zero.result a s.0 s.1 in
    let all = all_shown a f c.min-places.result shown start (start + c.from.result) c.is_below_zero-below_zero.result c.write_decimal-start.new.buffer c.in-Ok.digits.now (omega (arith, c.if-BITS.false, c.BITS.ensures, width_at_most g.T.Valued.BITS g.met.T.RawWord.width_law)) c.min-places.ensures c.write_decimal-start.array_long below (ap (λ k. start + k) c.from.ensures) c.write_decimal-start.ensures.text c.in-Ok.ensures.cases.0 in
    subst (λ (o : Option (List ℕ)). DisplaysOnOk g.W.Write.write_str_gives c.args.f.now c.pad_number.result o c.pad_number.new.f)
    (plain_is a f g.T.Valued.BITS (omega (arith, c.if-BITS.false, c.BITS.ensures)))
    (λ plain done. subst (λ (bytes : List ℕ). HasWritten g.W.Write.write_str_gives c.args.f.now bytes c.pad_number.new.f)
    (ap (after_sign a) (all ∙ ap (λ k. magnitude_text (nat_abs (to_places a f k Even)) k) (c.places_for-shown.ensures ∙ no_precision c.precision.result a f (c.precision.ensures.plain plain))))
    (plain_written g.W.Write.write_str_gives c.args.f.now c.pad_number.new.f c.pad_number.result a digits
    (subst (λ (b : Bool). WritesStyledOnOk g.W.Write.write_str_gives c.args.f.now c.pad_number.result (padded_integral (formatter_spec c.args.f.now) b [] digits) c.pad_number.new.f) below c.pad_number.ensures) plain done))

pub pad_number-requires : goal.pad_number-requires
pad_number-requires g c = none_counted
