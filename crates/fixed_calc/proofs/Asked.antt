-- Words that ask for a demonstration.
use Rattle.std.proofs.Common.{◌≡◌, ◌≤◌, ℕ, List, [], ◌∷◌, map, length, get_or, Some, String, string_bytes, sym, ap, ◌∙◌, arith, codes}
use Rattle.std.specs.declared.alloc.Global.{Global}
use Rattle.fixed_word.specs.Decimal.{natural_text}
use Rattle.fixed_calc.specs.CommandLine.{IsDemo, most_lines}
use Rattle.fixed_digits.specs.Numerals.{cap, natural_at}
use Rattle.fixed_digits.proofs.Decimals.{natural_takes, natural_again, natural_text_injective}

-- the words say one number
pub one_asked : (words : List (String Global)) (m n : ℕ) → IsDemo words m → IsDemo words n → m ≡ n
one_asked words m n one other =
    let e : codes "demo" ∷ natural_text m ∷ [] ≡ codes "demo" ∷ natural_text n ∷ [] = sym one.texts ∙ other.texts in
    let same : natural_text m ≡ natural_text n = cc in
    natural_text_injective m n same

-- two words and their texts
pub two_texts : (words : List (String Global)) (a b : String Global) (s t : List ℕ) → length words ≡ 2 → a ≡ get_or words 0 a → b ≡ get_or words 1 b → string_bytes a ≡ s → string_bytes b ≡ t → map string_bytes words ≡ s ∷ t ∷ []
two_texts [] a b s t two first second x y = absurd (omega arith)
two_texts (v ∷ []) a b s t two first second x y = absurd (omega arith)
two_texts (v ∷ w ∷ []) a b s t two first second x y =
    (λ i. string_bytes (sym first i) ∷ string_bytes (sym second i) ∷ []) ∙ (λ i. x i ∷ y i ∷ [])
two_texts (v ∷ w ∷ u ∷ more) a b s t two first second x y = absurd (omega arith)

-- a number that was read, below the cap
pub lines_taken : (t : List ℕ) (m : ℕ) → natural_at t ≡ Some m → m ≤ most_lines → natural_text m ≡ t
lines_taken t m e small =
    let found = natural_takes t m e in
    let same : found.0 ≡ m = omega (arith, found.2) in
    ap natural_text (sym same) ∙ found.1

-- the number of a text is read
pub lines_again : (t : List ℕ) (n : ℕ) → natural_text n ≡ t → n ≤ most_lines → natural_at t ≡ Some n
lines_again t n e small =
    let same : cap n ≡ n = omega arith in
    ap natural_at (sym e) ∙ natural_again n ∙ ap Some same
