use Rattle.std.proofs.Common.{◌≡◌, ◌*◌, ◌^◌, ◌-◌, ◌++◌, ◌≤◌, List, ℕ, Option, false, min, replicate, subst, ap, ◌∙◌, arith}
use Rattle.std.specs.Fmt.{DisplaysOnOk, DisplaysStyledOnOk, HasWritten, formatter_spec, padded_integral, spec_precision}
use Rattle.std.specs.Option.{unwrap_or}
use Rattle.fixed_kernel.proofs.Alikes.{width_at_most}
use Rattle.fixed_decimal.specs.Text.{after_sign}
use Rattle.fixed_num.proofs.Prints.{below_is}
use Rattle.fixed_radix.specs.Bases.{base_of, base_text, in_base, is_upper}
use Rattle.fixed_radix.proofs.Prints.{IsPut, all_in, exact_is, no_precision, plain_is, plain_written, shift_small, shown_is, styled_is}
use Rattle.fixed_radix.proofs.display.InBaseDisplay.fmt.Goals as goal

pub in_units-units-requires-clause-shift : goal.in_units-units-requires-clause-shift
in_units-units-requires-clause-shift g c =
    shift_small c.digit_bits-bits.result c.min-places.result c.unwrap_or-shown.result c.exact_places-exact.result g.row.F
    (c.min-places.ensures ∙ ap (λ n. min c.unwrap_or-shown.result n) c.max.ensures) c.exact_places-exact.ensures.shift c.digit_bits-bits.ensures.most

pub put_number-start-requires-clause-shift : goal.put_number-start-requires-clause-shift
put_number-start-requires-clause-shift g c =
    let s = shift_small c.digit_bits-bits.result c.min-places.result c.unwrap_or-shown.result c.exact_places-exact.result g.row.F
    (c.min-places.ensures ∙ ap (λ n. min c.unwrap_or-shown.result n) c.max.ensures) c.exact_places-exact.ensures.shift c.digit_bits-bits.ensures.most in
    omega (arith, s, c.if-BITS.false, c.BITS.ensures, width_at_most g.T.Valued.BITS g.met.T.RawWord.width_law)

pub returns-in-Ok-clause-styled : goal.returns-in-Ok-clause-styled
returns-in-Ok-clause-styled g c =
    let x = c.args.self.now in
    let a = g.T.Valued.value x.number.bits in
    let f = g.row.F in
    let q = c.unwrap_or-shown.result in
    let p = c.min-places.result in
    let spec = formatter_spec c.args.f.now in
    let digits = c.in-Ok.digits.now ++ replicate (q - p) 48 in
    let s = c.is_below_zero.ensures.sign in
    let put : IsPut x.base a f c.digit_bits-bits.result c.magnitude-size.result c.exact_places-exact.result p q c.put_number-start.result c.is_upper.result c.put_number-start.new.buffer c.in-Ok.digits.now = record {
      bits_is = c.digit_bits-bits.ensures.value;
      upper = c.is_upper.ensures;
      size = c.magnitude-size.ensures.magnitude;
      exact = c.exact_places-exact.ensures.exact;
      few = c.min-places.ensures ∙ ap (λ n. min c.unwrap_or-shown.result n) c.max.ensures;
      long = c.put_number-start.array_long;
      text = c.put_number-start.ensures.text ∙ ap (λ n. base_text (2 ^ c.digit_bits-bits.result) c.is_upper.result n p) (c.in_units-units.ensures.units false);
      shown = c.in-Ok.ensures.cases.0;
    } in
    let all = all_in x.base a f c.digit_bits-bits.result c.magnitude-size.result c.exact_places-exact.result p q c.put_number-start.result c.is_upper.result c.put_number-start.new.buffer c.in-Ok.digits.now put in
    let exact = exact_is x.base a f c.digit_bits-bits.result c.magnitude-size.result c.exact_places-exact.result c.digit_bits-bits.ensures.value c.magnitude-size.ensures.magnitude c.exact_places-exact.ensures.places in
    let places = shown_is (spec_precision spec) q c.exact_places-exact.result (base_of x.base) a f (c.unwrap_or-shown.ensures ∙ ap (λ (o : Option ℕ). unwrap_or o c.exact_places-exact.result) c.precision.ensures.value) exact in
    subst (λ (o : Option (List ℕ)). DisplaysStyledOnOk g.W.Write.write_str_gives c.args.f.now c.pad_number.result o c.pad_number.new.f)
    (styled_is (padded_integral spec) (spec_precision spec) x.base a f g.T.Valued.BITS q c.is_below_zero.result c.prefix_of.result.now digits (omega (arith, c.if-BITS.false, c.BITS.ensures)) (below_is c.is_below_zero.result a s.0 s.1) c.prefix_of.ensures.value places all)
    c.pad_number.ensures

pub returns-in-Ok-clause-writes : goal.returns-in-Ok-clause-writes
returns-in-Ok-clause-writes g c =
    let x = c.args.self.now in
    let a = g.T.Valued.value x.number.bits in
    let f = g.row.F in
    let q = c.unwrap_or-shown.result in
    let p = c.min-places.result in
    let digits = c.in-Ok.digits.now ++ replicate (q - p) 48 in
    let s = c.is_below_zero.ensures.sign in
    let below = below_is c.is_below_zero.result a s.0 s.1 in
    let put : IsPut x.base a f c.digit_bits-bits.result c.magnitude-size.result c.exact_places-exact.result p q c.put_number-start.result c.is_upper.result c.put_number-start.new.buffer c.in-Ok.digits.now = record {
      bits_is = c.digit_bits-bits.ensures.value;
      upper = c.is_upper.ensures;
      size = c.magnitude-size.ensures.magnitude;
      exact = c.exact_places-exact.ensures.exact;
      few = c.min-places.ensures ∙ ap (λ n. min c.unwrap_or-shown.result n) c.max.ensures;
      long = c.put_number-start.array_long;
      text = c.put_number-start.ensures.text ∙ ap (λ n. base_text (2 ^ c.digit_bits-bits.result) c.is_upper.result n p) (c.in_units-units.ensures.units false);
      shown = c.in-Ok.ensures.cases.0;
    } in
    let all = all_in x.base a f c.digit_bits-bits.result c.magnitude-size.result c.exact_places-exact.result p q c.put_number-start.result c.is_upper.result c.put_number-start.new.buffer c.in-Ok.digits.now put in
    let exact = exact_is x.base a f c.digit_bits-bits.result c.magnitude-size.result c.exact_places-exact.result c.digit_bits-bits.ensures.value c.magnitude-size.ensures.magnitude c.exact_places-exact.ensures.places in
    subst (λ (o : Option (List ℕ)). DisplaysOnOk g.W.Write.write_str_gives c.args.f.now c.pad_number.result o c.pad_number.new.f)
    (plain_is x.base a f g.T.Valued.BITS (omega (arith, c.if-BITS.false, c.BITS.ensures)))
    (λ plain done. subst (λ (bytes : List ℕ). HasWritten g.W.Write.write_str_gives c.args.f.now bytes c.pad_number.new.f)
    (ap (after_sign a) (all ∙ ap (λ k. base_text (base_of x.base) (is_upper x.base) (in_base (base_of x.base) a f k) k) (no_precision c.precision.result q c.exact_places-exact.result (c.precision.ensures.plain plain) c.unwrap_or-shown.ensures ∙ exact)))
    (plain_written g.W.Write.write_str_gives c.args.f.now c.pad_number.new.f c.pad_number.result a c.is_below_zero.result c.prefix_of.result.now digits below c.pad_number.ensures plain done))
