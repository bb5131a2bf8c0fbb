-- What a number prints.
use Rattle.std.proofs.Common.{◌≡◌, ◌+◌, ◌-◌, ◌≤◌, ◌<ℤ◌, ℕ, ℤ, pos, negsuc, nat_abs, Bool, true, false, nat_le, if◌then◌else◌, Option, Some, None, List, [], min, replicate, length, take, drop, length-drop, refl, sym, ap, ◌∙◌, drop-drop, append-nil, subst, cond, Result, ◌++◌, ◌/◌, arith}
use Rattle.std.specs.Prelude.{int_lt, IsNone, IsTrue}
use Rattle.std.specs.Option.{unwrap_or}
use Rattle.std.specs.Fmt.{IsDefaultSpec, IsPlainFormatter, WritesInCalls, WritesOnOk, WritesStyledOnOk, char_count, formatter_spec, formatter_writer, padded_integral, padding_before, sign_text}
use Rattle.std.specs.declared.fmt.Error.{Error}
use Rattle.std.specs.declared.fmt.Formatter.{Formatter}
use Rattle.std.proofs.lemmas.Int.{ints}
use mir.Val.{bool_byte}
use Rattle.std.proofs.lemmas.Bool.Decides.{nat_tests}
use Rattle.std.proofs.lemmas.List.{take_all}
use Rattle.fixed_word.specs.declared.rounding.Rounding.TheVariants.{Even}
use Rattle.fixed_decimal.proofs.Padded.{padded_text}
use Rattle.fixed_decimal.specs.Text.{after_sign, magnitude_text, shortest, text_of, to_places}
use Rattle.fixed_num.specs.Shown.{plain_text, styled_text}

pub below_is : (b : Bool) (a : ℤ) → (IsTrue b → a <ℤ pos 0) → (a <ℤ pos 0 → IsTrue b) → b ≡ int_lt a (pos 0)
below_is true (pos n) only back = absurd (omega (arith, ints, only refl))
below_is false (pos n) only back = grind (arith, ints)
below_is true (negsuc n) only back = grind (arith, ints)
below_is false (negsuc n) only back = back (omega (arith, ints))

-- what stands behind the sign
behind_sign : (a : ℤ) (b : Bool) (text : List ℕ) → b ≡ int_lt a (pos 0) → drop (bool_byte b) (after_sign a text) ≡ text
behind_sign (pos n) true text e = absurd (grind (arith, ints, e))
behind_sign (pos n) false text e = refl
behind_sign (negsuc n) true text e = refl
behind_sign (negsuc n) false text e = absurd (grind (arith, ints, e))

pub digits_shown : (a : ℤ) (f p start from : ℕ) (b : Bool) (buffer : List ℕ) → length buffer ≡ 86 → b ≡ int_lt a (pos 0) → from ≡ start + bool_byte b → drop start buffer ≡ text_of a f p Even → take (86 - from) (drop from buffer) ≡ magnitude_text (nat_abs (to_places a f p Even)) p
digits_shown a f p start from b buffer long below e text =
    take_all (86 - from) (drop from buffer) (omega (arith, length-drop from buffer))
    ∙ ap (λ k. drop k buffer) e ∙ sym (drop-drop (bool_byte b) start buffer) ∙ ap (drop (bool_byte b)) text
    ∙ behind_sign a b (magnitude_text (nat_abs (to_places a f p Even)) p) below

-- the digits with the zeros behind them
pub all_shown : (a : ℤ) (f p q start from : ℕ) (b : Bool) (buffer digits : List ℕ) → f ≤ 64 → p ≡ min q 64 → length buffer ≡ 86 → b ≡ int_lt a (pos 0) → from ≡ start + bool_byte b → drop start buffer ≡ text_of a f p Even → digits ≡ take (86 - from) (drop from buffer)
    → digits ++ replicate (q - p) 48 ≡ magnitude_text (nat_abs (to_places a f q Even)) q
all_shown a f p q start from b buffer digits le least long below e text is =
    ap (λ (ds : List ℕ). ds ++ replicate (q - p) 48) (is ∙ digits_shown a f p start from b buffer long below e text)
    ∙ ap (λ k. magnitude_text (nat_abs (to_places a f k Even)) k ++ replicate (q - k) 48) least
    ∙ padded_text a f q le

pub styled_is : (layout : Bool → List ℕ → List ℕ → List ℕ) (precision : Option ℕ) (a : ℤ) (f n p : ℕ) (b : Bool) (digits : List ℕ) → f ≤ n → b ≡ int_lt a (pos 0) → p ≡ unwrap_or precision (shortest a f) → digits ≡ magnitude_text (nat_abs (to_places a f p Even)) p
    → Some (layout b [] digits) ≡ styled_text layout precision a f n
styled_is layout precision a f n p b digits le below places shown =
    let fits : nat_le f n ≡ true = grind (arith, nat_tests) in
    let q = unwrap_or precision (shortest a f) in
    ap (λ c. Some (layout c [] digits)) below
    ∙ ap (λ ds. Some (layout (int_lt a (pos 0)) [] ds)) (shown ∙ ap (λ k. magnitude_text (nat_abs (to_places a f k Even)) k) places)
    ∙ sym (ap (λ c. if c then Some (layout (int_lt a (pos 0)) [] (magnitude_text (nat_abs (to_places a f q Even)) q)) else None) fits)

-- ---- no options
padding_zero : (a b : Bool) → cond a 0 (cond b (0 / 2) 0) ≡ 0
padding_zero true b = refl
padding_zero false true = refl
padding_zero false false = refl

cond_self : {A : Type 0} (t : Bool) (x : A) → cond t x x ≡ x
cond_self true x = refl
cond_self false x = refl

plain_layout : {W : Type 0} (f : Formatter W) (negative : Bool) (digits : List ℕ) → IsPlainFormatter f → padded_integral (formatter_spec f) negative [] digits ≡ sign_text negative ++ digits
unfolding padded_integral
plain_layout f negative digits p =
    let s = formatter_spec f in
    let none : s.width - length digits - length (sign_text negative) - char_count [] ≡ 0 = omega (arith, p.bare.width) in
    let side : padding_before s 0 3 ≡ 0 = padding_zero _ _ in
    rw (p.bare.plus, p.bare.alternate, none, side) (simp (cond_self, append-nil))

signed : (a : ℤ) (digits : List ℕ) → sign_text (int_lt a (pos 0)) ++ digits ≡ after_sign a digits
signed (pos n) digits = let e : int_lt (pos n) (pos 0) ≡ false = grind (arith, ints) in ap (λ b. sign_text b ++ digits) e
signed (negsuc n) digits = refl

pub plain_written : {W : Type 0} (took : W → List ℕ → W → Type 0) (f g : Formatter W) (r : Result (Unit {0}) Error) (a : ℤ) (digits : List ℕ) → WritesStyledOnOk took f r (padded_integral (formatter_spec f) (int_lt a (pos 0)) [] digits) g → WritesOnOk took f r (after_sign a digits) g
plain_written took f g r a digits styled plain done =
    let h = styled plain.flush done in
    record {
      wrote = subst (λ (bytes : List ℕ). WritesInCalls took (formatter_writer f) bytes (formatter_writer g)) (plain_layout f (int_lt a (pos 0)) digits plain ∙ signed a digits) h.wrote;
      plain = record { bare = subst IsDefaultSpec (sym h.spec) plain.bare; flush = h.flush };
    }

pub plain_is : (a : ℤ) (f n : ℕ) → f ≤ n → Some (text_of a f (shortest a f) Even) ≡ plain_text a f n
plain_is a f n le =
    let fits : nat_le f n ≡ true = grind (arith, nat_tests) in
    sym (ap (λ c. if c then Some (text_of a f (shortest a f) Even) else None) fits)

pub no_precision : (o : Option ℕ) (a : ℤ) (f : ℕ) → IsNone o → unwrap_or o (shortest a f) ≡ shortest a f
no_precision None a f h = refl
no_precision (Some p) a f h = cc
