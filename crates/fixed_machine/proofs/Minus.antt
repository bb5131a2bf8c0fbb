-- The minus of a number, by the first digit of its magnitude.
use Rattle.std.proofs.Common.{◌≡◌, ◌<◌, ◌+◌, ◌++◌, ◌∙◌, ℕ, zero, suc, Bool, true, false, List, [], ◌∷◌, map, get_or, drop, refl, ap, sym, subst, arith}
use Rattle.std.specs.Int.Digits.{digits_of}
use Rattle.std.proofs.lemmas.Int.Digits.{first_digits_of}
use Rattle.std.proofs.lemmas.List.{get_or-drop}
use Rattle.fixed_word.specs.Decimal.{natural_text, whole_text}
use Rattle.fixed_word.specs.Format.{with_sign}
use Rattle.fixed_digits.proofs.Decimals.{natural_text_zero, text_above}

-- no number but 0 begins with a 0
first_above : (ds rest : List ℕ) → 0 < get_or ds 0 0 → get_or (map (λ d. 48 + d) ds ++ rest) 0 0 ≡ 48 → ⊥
first_above [] rest above is = absurd (omega arith)
first_above (d ∷ ds) rest above is = omega arith

zero_first : (m : ℕ) (rest : List ℕ) → get_or (natural_text m ++ rest) 0 0 ≡ 48 → m ≡ 0
zero_first zero rest is = refl
zero_first (suc k) rest is =
    absurd (first_above (digits_of 10 (suc k)) rest (first_digits_of 10 (suc k) (omega arith) (omega arith)) (ap (λ (t : List ℕ). get_or (t ++ rest) 0 0) (sym (text_above (suc k) (omega arith))) ∙ is))

first_zero : (rest : List ℕ) → get_or (natural_text 0 ++ rest) 0 0 ≡ 48
first_zero rest = rw natural_text_zero refl

-- the byte where a text stands
stands_first : (text front rest : List ℕ) (start : ℕ) → drop start text ≡ front ++ rest → get_or text start 0 ≡ get_or (front ++ rest) 0 0
stands_first text front rest start is =
    let there : start ≡ start + 0 = omega arith in
    ap (λ k. get_or text k 0) there ∙ sym (get_or-drop start text 0 0) ∙ ap (λ (t : List ℕ). get_or t 0 0) is

-- ---- the text of a number whose magnitude stands in a text
pub without_minus : (b : Bool) (m : ℕ) → b ≡ false → whole_text (with_sign b m) ≡ natural_text m
without_minus b m is = rw is refl

pub of_zero : (b : Bool) (m start : ℕ) (text rest : List ℕ) → drop start text ≡ natural_text m ++ rest → get_or text start 0 ≡ 48 → whole_text (with_sign b m) ≡ natural_text m
of_zero b m start text rest is first =
    let none = zero_first m rest (sym (stands_first text (natural_text m) rest start is) ∙ first) in
    subst (λ k. whole_text (with_sign b k) ≡ natural_text k) (sym none) (by_sign b)
  where
    by_sign : (b : Bool) → whole_text (with_sign b 0) ≡ natural_text 0
    by_sign true = refl
    by_sign false = refl

pub with_minus : (b : Bool) (m start : ℕ) (text rest : List ℕ) → b ≡ true → drop start text ≡ natural_text m ++ rest → (get_or text start 0 ≡ 48 → ⊥) → whole_text (with_sign b m) ≡ 45 ∷ natural_text m
with_minus b zero start text rest below is first = absurd (first (stands_first text (natural_text 0) rest start is ∙ first_zero rest))
with_minus b (suc k) start text rest below is first = rw below refl
