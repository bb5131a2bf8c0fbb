-- What a line is read as, by a run as it is kept.
use Rattle.std.proofs.Common.{◌≡◌, ◌<◌, ◌≤◌, ℕ, ℤ, List, [], ◌∷◌, length, Option, Some, None, Bool, true, false, cond, codes, refl, sym, ap, ◌∙◌, arith}
use Rattle.std.specs.Option.{option_map}
use Rattle.std.specs.Prelude.{nat_lt, if◌then◌else◌}
use Rattle.std.specs.Str.{bytes_eq}
use Rattle.std.proofs.lemmas.Bool.Decides.{nat_tests}
use Rattle.fixed_word.specs.Format.{IsWidth}
use Rattle.fixed_text.specs.declared.decimal.Decimal.{Decimal}
use Rattle.fixed_text.specs.Decimals.{decimal_of, decimal_value}
use Rattle.fixed_digits.specs.Numerals.{cap}
use Rattle.fixed_text.specs.Numbers.{numbered_in, only_number, whole_in, wholes_in, before_others}
use Rattle.fixed_text.specs.Readings.{Reading, Malformed, Misfit, Read, in_range, read_map, fitting_number, fitting_numbers}
use Rattle.fixed_text.proofs.Caps.{held_alike}
use Rattle.fixed_filter.specs.declared.shape.Shape.{Shape}
use Rattle.fixed_text.specs.Tokens.{tokens_of}
use Rattle.fixed_filter.specs.Lines.{line_of}
use Rattle.fixed_filter.specs.inside.Parser.{line_at, sample_of, taps_of}
use Rattle.fixed_filter.proofs.Readers.{line_parsed}
use Rattle.fixed_filter.specs.Runs.{shape_fits, start, started}
use Rattle.fixed_filter.specs.inside.Kept.{KeptState, kept_read, kept_sample, kept_taps, kept_text}

-- ---- taps
taps_alike : (state : KeptState) (ts : List (List ℕ)) → 0 < length ts → kept_read state (taps_of (wholes_in ts)) ≡ (if state.begun then Malformed else read_map (λ taps. (kept_taps taps state, [])) (fitting_numbers state.signed state.bits (wholes_in ts)))
taps_alike state [] some = absurd (omega arith)
taps_alike state (t ∷ ts) some = by_parts state.begun (whole_in t) (wholes_in ts)
  where
    malformed : (b : Bool) → let m : Reading (KeptState × List ℕ) = Malformed in m ≡ (if b then Malformed else Malformed)
    malformed true = refl
    malformed false = refl

    by_parts : (b : Bool) (o : Option ℤ) (os : Option (List ℤ)) → kept_read state (taps_of (before_others o os)) ≡ (if state.begun then Malformed else read_map (λ taps. (kept_taps taps state, [])) (fitting_numbers state.signed state.bits (before_others o os)))
    by_parts b None os = malformed state.begun
    by_parts b (Some x) None = malformed state.begun
    by_parts b (Some x) (Some xs) = refl

pub taps_taken : (before state : KeptState) (ts : List (List ℕ)) (xs : List ℤ) → state ≡ before → state.begun ≡ false → 0 < length ts → fitting_numbers state.signed state.bits (wholes_in ts) ≡ Read xs → kept_read before (taps_of (wholes_in ts)) ≡ Read (kept_taps xs before, [])
taps_taken before state ts xs is begun some e =
    ap (λ (s : KeptState). kept_read s (taps_of (wholes_in ts))) (sym is) ∙ taps_alike state ts some
    ∙ ap (λ (b : Bool). if b then Malformed else read_map (λ taps. (kept_taps taps state, [])) (fitting_numbers state.signed state.bits (wholes_in ts))) begun
    ∙ ap (read_map (λ taps. (kept_taps taps state, []))) e ∙ ap (λ (s : KeptState). Read (kept_taps xs s, [])) is

pub some_taps : (s : Bool) (n : ℕ) (ts : List (List ℕ)) (xs : List ℤ) → 0 < length ts → fitting_numbers s n (wholes_in ts) ≡ Read xs → 0 < length xs
some_taps s n [] xs some e = absurd (omega arith)
some_taps s n (t ∷ ts) xs some e = by_parts (whole_in t) (wholes_in ts) e
  where
    by_test : (y : ℤ) (ys : List ℤ) (b : Bool) → in_range b (Read (y ∷ ys)) ≡ Read xs → 0 < length xs
    by_test y ys true e = let same : xs ≡ y ∷ ys = cc in rw same (omega arith)
    by_test y ys false e = absurd (cc)

    by_parts : (o : Option ℤ) (os : Option (List ℤ)) → fitting_numbers s n (before_others o os) ≡ Read xs → 0 < length xs
    by_parts None os e = absurd (cc)
    by_parts (Some y) None e = absurd (cc)
    by_parts (Some y) (Some ys) e = by_test y ys _ e

-- ---- a sample
placed : (j place : ℕ) (b : Bool) → Some place ≡ (if b then Some j else None) → (b ≡ true) × (j ≡ place)
placed j place true e = (refl, cc)
placed j place false e = absurd (cc)

module _ (state : KeptState) (s : Bool) (n j place : ℕ) (d : Decimal) (w : IsWidth n) (word : (state.signed ≡ s) × (state.bits ≡ n)) (there : Some place ≡ (if nat_lt j (length state.channels) then Some j else None)) where
  sample_alike : (o : Option ℤ) → Some d ≡ option_map decimal_of o → kept_read state (sample_of (Some j) o) ≡ read_map (λ x. (kept_sample place x state, kept_text state place x)) (fitting_number s n (Some (decimal_value d)))
  sample_alike None held = cc
  sample_alike (Some x) held =
      let is = placed j place (nat_lt j (length state.channels)) there in
      ap (λ (b : Bool). in_range b (read_map (λ x. (kept_sample j x state, kept_text state j x)) (fitting_number state.signed state.bits (Some x)))) is.0
      ∙ ap (λ (s : Bool). read_map (λ x. (kept_sample j x state, kept_text state j x)) (fitting_number s state.bits (Some x))) word.0
      ∙ ap (λ (n : ℕ). read_map (λ x. (kept_sample j x state, kept_text state j x)) (fitting_number s n (Some x))) word.1
      ∙ ap (λ (i : ℕ). read_map (λ x. (kept_sample i x state, kept_text state i x)) (fitting_number s n (Some x))) is.1
      ∙ ap (read_map (λ x. (kept_sample place x state, kept_text state place x))) (sym (held_alike s n (Some x) d w held))

  pub sampled : (o : Option ℤ) (v : ℤ) → Some d ≡ option_map decimal_of o → fitting_number s n (Some (decimal_value d)) ≡ Read v → kept_read state (sample_of (Some j) o) ≡ Read (kept_sample place v state, kept_text state place v)
  sampled o v held e = sample_alike o held ∙ ap (read_map (λ x. (kept_sample place x state, kept_text state place x))) e

-- ---- the line of a name and what follows it
pub line_none : (piece : List ℕ) → tokens_of piece ≡ [] → line_of piece ≡ None
unfolding line_at
line_none piece e = line_parsed piece ∙ ap line_at e

module _ (piece : List ℕ) (rest : List (List ℕ)) (name : List ℕ) (cut : tokens_of piece ≡ name ∷ rest) where
  by_name : line_of piece ≡ cond (bytes_eq name (codes "taps")) (taps_of (wholes_in rest)) (sample_of (numbered_in 99 name) (only_number rest))
  unfolding line_at
  by_name = line_parsed piece ∙ ap line_at cut

  pub line_taps : bytes_eq name (codes "taps") ≡ true → line_of piece ≡ taps_of (wholes_in rest)
  line_taps e = by_name ∙ ap (λ b. cond b (taps_of (wholes_in rest)) (sample_of (numbered_in 99 name) (only_number rest))) e

  pub line_sample : bytes_eq name (codes "taps") ≡ false → (o : Option ℕ) → numbered_in 99 name ≡ o → line_of piece ≡ sample_of o (only_number rest)
  line_sample e o f =
      by_name ∙ ap (λ b. cond b (taps_of (wholes_in rest)) (sample_of (numbered_in 99 name) (only_number rest))) e
      ∙ ap (λ o. sample_of o (only_number rest)) f

pub found : (o : Option ℕ) (m : ℕ) → Some m ≡ option_map cap o → (j : ℕ) × (o ≡ Some j) × (m ≡ cap j)
found None m e = absurd (cc)
found (Some j) m e = (j, refl, cc)

pub not_found : (o : Option ℕ) → None ≡ option_map cap o → o ≡ None
not_found None e = refl
not_found (Some j) e = absurd (cc)

-- ---- the start
pub started_in : (signed : Bool) (n : ℕ) (shape : Shape) → shape.out_frac ≤ n → shape.coef_frac ≤ n → shape.sample_frac ≤ n → started signed n shape ≡ Read (start signed n shape)
started_in signed n shape a b c =
    let within : shape_fits n shape ≡ true = grind (arith, nat_tests) in
    ap (λ (t : Bool). cond t (Read (start signed n shape)) Misfit) within
