-- A header's text is read as the header, and only a header's text is.
use Rattle.std.proofs.Common.{◌≡◌, ℕ, ◌<◌, List, [], ◌∷◌, map, length, Some, true, refl, sym, ap, ◌∙◌, arith}
use Rattle.std.specs.List.{join_with_byte}
use Rattle.std.specs.Str.Parse.{digits_value}
use Rattle.std.specs.Cmp.Derive.{both_true}
use Rattle.std.proofs.lemmas.List.Splits.{join_with_byte-slice_split}
use Rattle.fixed_text.specs.declared.names.WordName.{WordName}
use Rattle.fixed_word.specs.Decimal.{natural_text}
use Rattle.fixed_text.specs.Words.{word_name, word_named}
use Rattle.fixed_script.specs.Text.{ScriptHeader, header_text, header_tokens}
use Rattle.fixed_digits.specs.Numerals.{cap, is_decimal}
use Rattle.fixed_text.specs.Tokens.{tokens_of}
use Rattle.fixed_script.specs.Headers.{CappedHeader, capped_header, capped_fractions, all_decimal}
use Rattle.fixed_digits.proofs.Decimals.{decimal_of_text, text_of_value, both}
use Rattle.fixed_text.proofs.Joined.{all_no_space, split_joined, natural_no_space}
use Rattle.fixed_text.proofs.Readers.{word_again, word_no_space, word_only}

naturals_no_space : (ns : List ℕ) → all_no_space (map natural_text ns) ≡ true
naturals_no_space [] = refl
naturals_no_space (n ∷ ns) = both_true (natural_no_space n) (naturals_no_space ns)

pub tokens_of_header : (h : ScriptHeader) → tokens_of (header_text h) ≡ header_tokens h
tokens_of_header h = split_joined _ _ (both_true (word_no_space h.word) (both_true (natural_no_space h.first) (naturals_no_space h.others)))

naturals_decimal : (ns : List ℕ) → all_decimal (map natural_text ns) ≡ true
naturals_decimal [] = refl
naturals_decimal (n ∷ ns) = both_true (decimal_of_text n).0 (naturals_decimal ns)

-- what a header's text begins with is its word, and decimals follow
pub record Parts (h : ScriptHeader) (name : List ℕ) (ts : List (List ℕ)) : Type 0 where
  pub word : word_named name ≡ Some h.word
  pub some : 0 < length ts
  pub decimals : all_decimal ts ≡ true

pub header_parts : (h : ScriptHeader) (piece name : List ℕ) (ts : List (List ℕ)) → header_text h ≡ piece → tokens_of piece ≡ name ∷ ts → Parts h name ts
header_parts h piece name ts text tokens =
    let all : name ∷ ts ≡ header_tokens h = sym tokens ∙ ap tokens_of (sym text) ∙ tokens_of_header h in
    let first : name ≡ word_name h.word = cc in
    let rest : ts ≡ natural_text h.first ∷ map natural_text h.others = cc in
    record {
      word = ap word_named first ∙ word_again h.word;
      some = omega (arith, ap length rest);
      decimals = ap all_decimal rest ∙ naturals_decimal (h.first ∷ h.others);
    }

texts_again : (ts : List (List ℕ)) → all_decimal ts ≡ true → map natural_text (map (digits_value 10) ts) ≡ ts
texts_again [] e = refl
texts_again (t ∷ ts) e =
    let parts = both (is_decimal t) (all_decimal ts) e in
    ap (λ u. u ∷ map natural_text (map (digits_value 10) ts)) (text_of_value t parts.0) ∙ ap (λ us. t ∷ us) (texts_again ts parts.1)

caps_again : (ts : List (List ℕ)) → capped_fractions ts ≡ map cap (map (digits_value 10) ts)
caps_again [] = refl
caps_again (t ∷ ts) = ap (λ ns. cap (digits_value 10 t) ∷ ns) (caps_again ts)

pub header_found : (piece name : List ℕ) (ts : List (List ℕ)) (w : WordName) → tokens_of piece ≡ name ∷ ts → 0 < length ts → word_named name ≡ Some w → all_decimal ts ≡ true
    → (h : ScriptHeader) × (header_text h ≡ piece) × (record { word = w; fractions = capped_fractions ts } ≡ capped_header h)
header_found piece name [] w tokens lt word decimals = absurd (omega arith)
header_found piece name (t ∷ ts) w tokens lt word decimals =
    let named : word_name w ≡ name = word_only name w word in (
      record { word = w; first = digits_value 10 t; others = map (digits_value 10) ts },
      ap (λ x. join_with_byte 32 (x ∷ map natural_text (map (digits_value 10) (t ∷ ts)))) named
          ∙ ap (λ us. join_with_byte 32 (name ∷ us)) (texts_again (t ∷ ts) decimals) ∙ ap (join_with_byte 32) (sym tokens) ∙ join_with_byte-slice_split 32 piece,
      ap (λ ns. let h : CappedHeader = record { word = w; fractions = ns } in h) (caps_again (t ∷ ts)),
    )
