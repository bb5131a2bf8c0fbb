-- What a line is read as.
use Rattle.std.proofs.Common.{◌≡◌, ◌<◌, ℕ, ℤ, List, [], ◌∷◌, length, Option, Some, None, Bool, true, false, eqb, cond, codes, refl, sym, ap, subst, ◌∙◌, arith}
use Rattle.std.specs.Option.{option_map}
use Rattle.std.specs.Prelude.{nat_le, ◌≤◌}
use Rattle.std.proofs.lemmas.Bool.Decides.{nat_tests}
use Rattle.std.specs.Str.{bytes_eq}
use Rattle.fixed_text.specs.Numbers.{whole_in, wholes_in, before_others, only_number}
use Rattle.fixed_word.specs.Format.{IsWidth}
use Rattle.fixed_text.specs.declared.decimal.Decimal.{Decimal}
use Rattle.fixed_text.specs.declared.fault.LineFault.{LineFault}
use Rattle.fixed_text.specs.Decimals.{decimal_of, decimal_value}
use Rattle.fixed_text.specs.Answers.{IsLineFault}
use Rattle.fixed_text.proofs.Caps.{held_alike}
use Rattle.fixed_text.proofs.Turns.{refused_map}
use Rattle.fixed_text.specs.Readings.{Reading, Malformed, Misfit, Read, read_map, fitting_number, fitting_numbers}
use Rattle.fixed_poly.specs.Text.{At}
use Rattle.fixed_text.specs.Tokens.{tokens_of}
use Rattle.fixed_poly.specs.Lines.{line_of}
use Rattle.fixed_poly.specs.inside.Parser.{coefs_of, line_at}
use Rattle.fixed_poly.proofs.Readers.{line_parsed}
use Rattle.fixed_poly.specs.Runs.{PolyState, with_coefs, answer_text, line_read, started}

pub coefs_alike : (state : PolyState) (ts : List (List ℕ)) → 0 < length ts → line_read state (coefs_of (wholes_in ts)) ≡ read_map (λ coefs. (with_coefs coefs state, [])) (fitting_numbers state.signed state.bits (wholes_in ts))
coefs_alike state [] some = absurd (omega arith)
coefs_alike state (t ∷ ts) some = by_parts (whole_in t) (wholes_in ts)
  where
    by_parts : (o : Option ℤ) (os : Option (List ℤ)) → line_read state (coefs_of (before_others o os)) ≡ read_map (λ coefs. (with_coefs coefs state, [])) (fitting_numbers state.signed state.bits (before_others o os))
    by_parts None os = refl
    by_parts (Some x) None = refl
    by_parts (Some x) (Some xs) = refl

pub at_alike : (state : PolyState) (o : Option ℤ) → 0 < length state.coefs → line_read state (option_map At o) ≡ read_map (λ x. (state, answer_text state x)) (fitting_number state.signed state.bits o)
at_alike state None some = refl
at_alike state (Some x) some =
    let there : eqb (length state.coefs) 0 ≡ false = grind arith in
    ap (λ b. cond b Malformed (read_map (λ x. (state, answer_text state x)) (fitting_number state.signed state.bits (Some x)))) there

-- ---- at the state that the code holds
pub coefs_taken : (before state : PolyState) (ts : List (List ℕ)) (xs : List ℤ) → state ≡ before → 0 < length ts → fitting_numbers state.signed state.bits (wholes_in ts) ≡ Read xs → line_read before (coefs_of (wholes_in ts)) ≡ Read (with_coefs xs state, [])
coefs_taken before state ts xs is some e =
    ap (λ (s : PolyState). line_read s (coefs_of (wholes_in ts))) (sym is) ∙ coefs_alike state ts some ∙ ap (read_map (λ coefs. (with_coefs coefs state, []))) e

module _ (before state : PolyState) (o : Option ℤ) (d : Decimal) (is : state ≡ before) (w : IsWidth state.bits) (some : 0 < length state.coefs) (held : Some d ≡ option_map decimal_of o) where
  pub at_answered : (x : ℤ) → fitting_number state.signed state.bits (Some (decimal_value d)) ≡ Read x → line_read before (option_map At o) ≡ Read (before, answer_text state x)
  at_answered x e =
      ap (λ (s : PolyState). line_read s (option_map At o)) (sym is) ∙ at_alike state o some
      ∙ ap (read_map (λ x. (state, answer_text state x))) (sym (held_alike state.signed state.bits o d w held) ∙ e)
      ∙ ap (λ (s : PolyState). Read (s, answer_text state x)) is

  pub at_refused : (refusal : LineFault) → IsLineFault (fitting_number state.signed state.bits (Some (decimal_value d))) refusal → IsLineFault (line_read before (option_map At o)) refusal
  at_refused refusal e =
      let alike = ap (λ (s : PolyState). line_read s (option_map At o)) (sym is) ∙ at_alike state o some in
      subst (λ (r : Reading (PolyState × List ℕ)). IsLineFault r refusal) (sym alike)
      (refused_map (λ x. (state, answer_text state x)) (fitting_number state.signed state.bits o) refusal
      (subst (λ (r : Reading ℤ). IsLineFault r refusal) (held_alike state.signed state.bits o d w held) e))

pub started_in : (signed : Bool) (n frac : ℕ) → frac ≤ n → started signed n frac ≡ Read (record { signed = signed; bits = n; frac = frac; coefs = [] })
started_in signed n frac le =
    let within : nat_le frac n ≡ true = grind (arith, nat_tests) in
    let state : PolyState = record { signed = signed; bits = n; frac = frac; coefs = [] } in
    ap (λ (b : Bool). cond b (Read state) Misfit) within

-- ---- the line of a name and what follows it
pub line_none : (piece : List ℕ) → tokens_of piece ≡ [] → line_of piece ≡ None
unfolding line_at
line_none piece e = line_parsed piece ∙ ap line_at e

module _ (piece : List ℕ) (rest : List (List ℕ)) (name : List ℕ) (cut : tokens_of piece ≡ name ∷ rest) where
  by_name : line_of piece ≡ cond (bytes_eq name (codes "coefs")) (coefs_of (wholes_in rest)) (cond (bytes_eq name (codes "at")) (option_map At (only_number rest)) None)
  unfolding line_at
  by_name = line_parsed piece ∙ ap line_at cut

  pub line_coefs : bytes_eq name (codes "coefs") ≡ true → line_of piece ≡ coefs_of (wholes_in rest)
  line_coefs e = by_name ∙ ap (λ b. cond b (coefs_of (wholes_in rest)) (cond (bytes_eq name (codes "at")) (option_map At (only_number rest)) None)) e

  pub line_number : bytes_eq name (codes "coefs") ≡ false → bytes_eq name (codes "at") ≡ true → line_of piece ≡ option_map At (only_number rest)
  line_number e f =
      by_name ∙ ap (λ b. cond b (coefs_of (wholes_in rest)) (cond (bytes_eq name (codes "at")) (option_map At (only_number rest)) None)) e
      ∙ ap (λ b. cond b (option_map At (only_number rest)) None) f

  pub line_other : bytes_eq name (codes "coefs") ≡ false → bytes_eq name (codes "at") ≡ false → line_of piece ≡ None
  line_other e f =
      by_name ∙ ap (λ b. cond b (coefs_of (wholes_in rest)) (cond (bytes_eq name (codes "at")) (option_map At (only_number rest)) None)) e
      ∙ ap (λ b. cond b (option_map At (only_number rest)) None) f
