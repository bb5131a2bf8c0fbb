-- The polynomial of the sine: its value, and how far that lies below the exact one.
use Rattle.std.proofs.Common.{◌≡◌, ◌-◌, ◌*◌, ◌^◌, ◌≤ℤ◌, ℕ, ℤ, pos, true, List, sym, ap, ◌∙◌, arith}
use Rattle.std.proofs.lemmas.Int.{ints}
use Rattle.fixed_poly.specs.declared.reply.PolyReply.TheVariants.{Value, Overflow}
use Rattle.fixed_poly.specs.Exact.{shortfall}
use Rattle.fixed_poly.specs.Horner.{horner_reply, value_at}
use Rattle.fixed_poly.proofs.Bounds.{from_zero, at_most}
use Rattle.fixed_poly.proofs.Fitting.{always_fits}
use Rattle.fixed_poly.proofs.Steps.{reply_value}
use Rattle.fixed_guide.specs.Sine.{sine_coefficients}

module _ (x : ℤ) (low : pos 0 ≤ℤ x) (high : x ≤ℤ pos (2 ^ 29)) (coefs : List ℤ) (are : coefs ≡ sine_coefficients) where
  replies : horner_reply true 32 29 x coefs ≡ Value (value_at x 29 sine_coefficients 0)
  replies = ap (horner_reply true 32 29 x) are ∙ always_fits 32 29 x sine_coefficients low high (omega (arith, ints))

  pub never_over : (i : ℕ) → Overflow i ≡ horner_reply true 32 29 x coefs → ⊥
  never_over i e = let both : Overflow i ≡ Value (value_at x 29 sine_coefficients 0) = e ∙ replies in cc

  pub is_below : (v : ℤ) → Value v ≡ horner_reply true 32 29 x coefs → pos 0 ≤ℤ shortfall x 29 sine_coefficients v
  is_below v e =
      let r : horner_reply true 32 29 x sine_coefficients ≡ Value v = ap (horner_reply true 32 29 x) (sym are) ∙ sym e in
      rw (reply_value true 32 29 x v sine_coefficients r) (from_zero x 29 sine_coefficients low high)

  pub is_near : (v : ℤ) → Value v ≡ horner_reply true 32 29 x coefs → shortfall x 29 sine_coefficients v ≤ℤ pos (7 * (2 ^ 29 - 1) * 2 ^ (29 * 6))
  is_near v e =
      let r : horner_reply true 32 29 x sine_coefficients ≡ Value v = ap (horner_reply true 32 29 x) (sym are) ∙ sym e in
      rw (reply_value true 32 29 x v sine_coefficients r) (at_most x 29 sine_coefficients low high (omega arith))
