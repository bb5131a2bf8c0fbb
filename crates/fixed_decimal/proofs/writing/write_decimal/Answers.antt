use Rattle.std.proofs.Common.{◌<ℤ◌, ◌*◌, ◌^◌, ◌∷◌, List, ℕ, Bool, pos, ap, sym, ◌∙◌, arith, rules}
use Rattle.fixed_digits.proofs.Placed.{put_digit}
use Rattle.fixed_decimal.specs.Text.{magnitude_text}
use Rattle.fixed_decimal.specs.inside.Stepped.{stepped}
use Rattle.fixed_decimal.proofs.PlacesPut.{text_below}
use Rattle.fixed_decimal.proofs.writing.write_decimal.Goals as goal

pub returns-then-below_zero-clause-text : goal.returns-then-below_zero-clause-text
returns-then-below_zero-clause-text g c =
    let below : g.T.Valued.value c.args.number <ℤ pos 0 = c.is_below_zero-below_zero.ensures.sign.0 (search rules) in
    let within = c.write_magnitude-start.ensures.within in
    put_digit c.write_magnitude-start.new.buffer c.write_magnitude-start.result 45 within.0 (omega (arith, within.1, c.write_magnitude-start.array_long))
    ∙ ap (λ (ds : List ℕ). 45 ∷ ds) (c.write_magnitude-start.ensures.text ∙ ap (λ (b : Bool). magnitude_text (stepped c.args.rounding b (c.magnitude.result * 10 ^ c.args.places) (2 ^ c.args.frac)) c.args.places) c.if-below_zero.true)
    ∙ sym (text_below (g.T.Valued.value c.args.number) c.magnitude.result c.args.frac c.args.places c.args.rounding below c.magnitude.ensures.magnitude)
