-- A minus before the magnitude of a value below 0.
use Rattle.std.proofs.Common.{◌≡◌, ◌<ℤ◌, ◌≤ℤ◌, ℕ, pos, List, [], ◌∷◌, ◌++◌, ap, subst, ◌∙◌, append_assoc, rules}
use Rattle.std.specs.Result.{OnOk}
use Rattle.fixed_word.specs.Decimal.{natural_text}
use Rattle.fixed_text.proofs.Signed.{text_below, text_from_zero}
use Rattle.fixed_text.proofs.output.Output.append_word.Goals.{then-is_below_zero+in_ok-append, else-is_below_zero}
use Rattle.fixed_text.proofs.output.Output.append_word.Goals as goal

pub returns : goal.returns
returns g c =
    let old = c.args.self.now in
    let x = g.T.Valued.value c.args.word in
    let m = c.magnitude.result in
    let size = c.magnitude.ensures.magnitude in
    elim c.if-is_below_zero.branch [
      | then-is_below_zero+in_ok-append w ↦
          let below : x <ℤ pos 0 = c.is_below_zero.ensures.sign.0 (search rules) in
          let text = ap (λ (s : List ℕ). s ++ natural_text m) (w.self-is ∙ w.in_ok-append.ensures.added) ∙ append_assoc old (45 ∷ []) (natural_text m) ∙ ap (λ (t : List ℕ). old ++ t) (text_below x m below size) in
          subst (λ (s : List ℕ). OnOk c.append_natural.result (c.append_natural.new.self ≡ s)) text c.append_natural.ensures.added
      | else-is_below_zero w ↦
          let from_zero : pos 0 ≤ℤ x = search rules in
          let text = ap (λ (s : List ℕ). s ++ natural_text m) w.self-is ∙ ap (λ (t : List ℕ). old ++ t) (text_from_zero x m from_zero size) in
          subst (λ (s : List ℕ). OnOk c.append_natural.result (c.append_natural.new.self ≡ s)) text c.append_natural.ensures.added
    ]
