-- Registers of one digit that are read from the front of a line.
use Rattle.std.proofs.Common.{◌≡◌, ℕ, ◌-◌, ◌<◌, List, [], ◌∷◌, take, drop, length, get_or, arith, true, false, eqb, cond, sym, ◌∙◌, ap, refl, Some}
use Rattle.std.specs.Cmp.Derive.{both_true}
use Rattle.std.specs.Char.{is_ascii_digit}
use Rattle.std.specs.List.{onto_first}
use Rattle.std.proofs.lemmas.Bool.{ne_eqb}
use Rattle.std.proofs.lemmas.Grind.{common_steps}
use Rattle.fixed_text.specs.Tokens.{next_by, took, tokens_of}
use Rattle.fixed_script.specs.inside.Parser.{register_at}
use Rattle.fixed_digits.proofs.Capping.{digit_value_is}
use Rattle.fixed_digits.proofs.Fronts.{no_space, natural_is}

-- a register of one digit
one_digit_read : (b : ℕ) → is_ascii_digit b ≡ true → register_at (114 ∷ b ∷ []) ≡ Some (b - 48)
unfolding register_at
one_digit_read b digit =
    let d = digit_value_is b digit in
    natural_is (b ∷ []) (b - 48) (omega arith) (λ more. absurd (omega arith)) (both_true digit refl) (sym d.0 ∙ omega arith) (omega (arith, d.1, d.2))

no_space_test : (b : ℕ) → is_ascii_digit b ≡ true → eqb b 32 ≡ false
no_space_test b digit = ne_eqb b 32 (no_space b digit)

pub short_register_whole : (bytes : List ℕ) → length bytes ≡ 2 → get_or bytes 0 0 ≡ 114 → is_ascii_digit (get_or bytes 1 0) ≡ true → next_by register_at (tokens_of bytes) ≡ Some (get_or bytes 1 0 - 48, [])
short_register_whole [] two first digit = absurd (omega arith)
short_register_whole (a ∷ []) two first digit = absurd (omega arith)
short_register_whole (a ∷ b ∷ []) two first digit =
    ap (λ k. next_by register_at (tokens_of (k ∷ b ∷ []))) first
    ∙ ap (λ t. next_by register_at (onto_first 114 (cond t ([] ∷ [] ∷ []) ((b ∷ []) ∷ [])))) (no_space_test b digit)
    ∙ ap (λ r. took r []) (one_digit_read b digit)
short_register_whole (a ∷ b ∷ c ∷ rest) two first digit = absurd (omega arith)

pub short_register_cut : (bytes : List ℕ) → 2 < length bytes → get_or bytes 0 0 ≡ 114 → is_ascii_digit (get_or bytes 1 0) ≡ true → get_or bytes 2 0 ≡ 32 → next_by register_at (tokens_of bytes) ≡ Some (get_or bytes 1 0 - 48, tokens_of (take (length bytes - 3) (drop 3 bytes)))
short_register_cut [] more first digit space = absurd (omega arith)
short_register_cut (a ∷ []) more first digit space = absurd (omega arith)
short_register_cut (a ∷ b ∷ []) more first digit space = absurd (omega arith)
short_register_cut (a ∷ b ∷ c ∷ rest) more first digit space =
    let whole : take (length (a ∷ b ∷ c ∷ rest) - 3) rest ≡ rest = grind (arith, common_steps) in
    ap (λ k. next_by register_at (tokens_of (k ∷ b ∷ c ∷ rest))) first
    ∙ ap (λ k. next_by register_at (tokens_of (114 ∷ b ∷ k ∷ rest))) space
    ∙ ap (λ t. next_by register_at (onto_first 114 (cond t ([] ∷ [] ∷ tokens_of rest) (onto_first b ([] ∷ tokens_of rest))))) (no_space_test b digit)
    ∙ ap (λ r. took r (tokens_of rest)) (one_digit_read b digit)
    ∙ ap (λ ys. Some (b - 48, tokens_of ys)) (sym whole)
