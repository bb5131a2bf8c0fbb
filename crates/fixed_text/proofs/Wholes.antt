-- The decimal of a whole number is read as that number, and no other text is read.
use Rattle.std.proofs.Common.{◌≡◌, ℕ, zero, suc, List, [], ◌∷◌, ℤ, pos, negsuc, Option, Some, None, Bool, true, false, eqb, cond, refl, sym, ap, ◌∙◌, drop, arith}
use Rattle.std.specs.Option.{option_map}
use Rattle.std.proofs.lemmas.Bool.{eqb-true}
use Rattle.std.proofs.lemmas.Option.{same_Some, none-some}
use Rattle.fixed_word.specs.Decimal.{natural_text, whole_text}
use Rattle.fixed_text.specs.Decimals.{IsReading, decimal_of}
use Rattle.fixed_digits.specs.Numerals.{cap, has_minus}
use Rattle.fixed_text.specs.Numbers.{natural_in, signed_by, whole_in}
use Rattle.fixed_text.specs.inside.Reader.{whole_at, with_minus}
use Rattle.fixed_digits.proofs.Capping.{no_minus}
use Rattle.fixed_digits.proofs.Decimals.{decimal_of_text}
use Rattle.fixed_text.proofs.Naturals.{in_only, in_again, held_natural}

-- what is read after the sign
plain_only : (t : List ℕ) (o : Option ℕ) (x : ℤ) → natural_in t ≡ o → signed_by false o ≡ Some x → whole_text x ≡ t
plain_only t None x e f = absurd (none-some x f)
plain_only t (Some n) x e f = ap whole_text (sym (same_Some (pos n) x f)) ∙ in_only t n e

below_zero : (n : ℕ) → signed_by true (Some (suc n)) ≡ Some (negsuc n)
below_zero n =
    let above : eqb (suc n) 0 ≡ false = grind arith in
    let x : Option ℤ = Some (negsuc n) in
    ap (λ b. cond b None x) above

minus_only : (cs : List ℕ) (o : Option ℕ) (x : ℤ) → natural_in cs ≡ o → signed_by true o ≡ Some x → whole_text x ≡ 45 ∷ cs
minus_only cs None x e f = absurd (none-some x f)
minus_only cs (Some zero) x e f = absurd (none-some x f)
minus_only cs (Some (suc n)) x e f =
    ap whole_text (same_Some x (negsuc n) (sym f ∙ below_zero n)) ∙ ap (λ t. 45 ∷ t) (in_only cs (suc n) e)

only_by : (t : List ℕ) (b : Bool) (x : ℤ) → has_minus t ≡ b → signed_by b (natural_in (cond b (drop 1 t) t)) ≡ Some x → whole_text x ≡ t
only_by t false x is e = plain_only t (natural_in t) x refl e
only_by [] true x is e = cc
only_by (c ∷ cs) true x is e = minus_only cs (natural_in cs) x refl e ∙ ap (λ k. k ∷ cs) (sym (eqb-true c 45 is))

pub whole_only : (t : List ℕ) (x : ℤ) → whole_in t ≡ Some x → whole_text x ≡ t
unfolding whole_in
whole_only t x e = only_by t (has_minus t) x refl e

pub whole_again : (x : ℤ) → whole_in (whole_text x) ≡ Some x
unfolding whole_in
whole_again (pos n) =
    let plain = no_minus (natural_text n) (decimal_of_text n).0 in
    ap (λ b. signed_by b (natural_in (cond b (drop 1 (natural_text n)) (natural_text n)))) plain ∙ ap (signed_by false) (in_again n)
whole_again (negsuc n) = ap (signed_by true) (in_again (suc n)) ∙ below_zero n

-- ---- as it is held
reads : (t : List ℕ) (o : Option ℤ) → whole_in t ≡ o → IsReading t (option_map decimal_of o)
reads t (Some x) e = (x, whole_only t x e, refl)
reads t None e = λ x same. none-some x (sym e ∙ ap whole_in (sym same) ∙ whole_again x)

pub reading : (t : List ℕ) → IsReading t (option_map decimal_of (whole_in t))
reading t = reads t (whole_in t) refl

minus_above : (n : ℕ) → with_minus true (Some (cap (suc n))) ≡ Some (decimal_of (negsuc n))
minus_above n =
    let above : eqb (cap (suc n)) 0 ≡ false = grind arith in
    ap (λ b. cond b None (Some (decimal_of (negsuc n)))) above

capped : (b : Bool) (o : Option ℕ) → with_minus b (option_map cap o) ≡ option_map decimal_of (signed_by b o)
capped b None = refl
capped false (Some n) = refl
capped true (Some zero) = refl
capped true (Some (suc n)) = minus_above n ∙ ap (option_map decimal_of) (sym (below_zero n))

pub held : (t : List ℕ) → whole_at t ≡ option_map decimal_of (whole_in t)
unfolding whole_in
held t =
    let number : List ℕ = cond (has_minus t) (drop 1 t) t in
    ap (with_minus (has_minus t)) (held_natural number) ∙ capped (has_minus t) (natural_in number)
