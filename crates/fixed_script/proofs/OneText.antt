-- Two things with one text are equal.
use Rattle.std.proofs.Common.{◌≡◌, ℕ, suc, List, [], ◌∷◌, ◌++◌, Option, Some, None, map, ℤ, pos, negsuc, false, true, refl, sym, ap, ◌∙◌, arith, codes}
use Rattle.std.specs.Str.{bytes_eq}
use Rattle.std.proofs.lemmas.Bool.{false≢true}
use Rattle.std.proofs.lemmas.Option.{same_Some}
use Rattle.fixed_word.specs.declared.rounding.Rounding.{Rounding}
use Rattle.fixed_word.specs.declared.rounding.Rounding.TheVariants.{Down, Zero, Even}
use Rattle.fixed_script.specs.declared.names.Policy.{Policy}
use Rattle.fixed_script.specs.declared.names.Op.{Op}
use Rattle.fixed_text.specs.declared.names.WordName.{WordName}
use Rattle.fixed_word.specs.Decimal.{natural_text, whole_text}
use Rattle.fixed_text.specs.Words.{word_name, word_named}
use Rattle.fixed_script.specs.Names.{policy_name, policy_named, op_name, op_named, rounding_name, rounding_named}
use Rattle.fixed_script.specs.Text.{ScriptHeader, header_tokens, ScriptLine, SetTo, Apply, Operands, OneRegister, TwoRegisters, RegisterAndInt, ThreeRegisters, register_text, line_tokens, operand_tokens}
use Rattle.fixed_script.proofs.RoundingTokens.{rounding_tokens}
use Rattle.fixed_text.specs.Tokens.{tokens_of}
use Rattle.fixed_digits.specs.Numerals.{is_decimal, has_minus}
use Rattle.fixed_script.specs.TextLaws.{OneWholeNumber, OneLine, OneHeader}
use Rattle.fixed_digits.proofs.Decimals.{decimal_of_text, natural_text_injective}
use Rattle.fixed_text.proofs.Steps.{named_takes}
use Rattle.fixed_script.proofs.Readers.{policy_again, op_again}
use Rattle.fixed_digits.proofs.Capping.{no_minus}
use Rattle.fixed_script.proofs.Joined.{tokens_of_line}
use Rattle.fixed_script.proofs.Lines.{not_set}
use Rattle.fixed_text.proofs.Readers.{word_again}
use Rattle.fixed_script.proofs.HeaderLaws.{tokens_of_header}

heads : {x y : List ℕ} {xs ys : List (List ℕ)} → x ∷ xs ≡ y ∷ ys → x ≡ y
heads e = cc

tails : {x y : List ℕ} {xs ys : List (List ℕ)} → x ∷ xs ≡ y ∷ ys → xs ≡ ys
tails e = cc

plain_apart : (n : ℕ) (t : List ℕ) → natural_text n ≡ 45 ∷ t → ⊥
plain_apart n t e = false≢true (sym (no_minus (natural_text n) (decimal_of_text n).0) ∙ ap has_minus e)

pub one_whole : OneWholeNumber
one_whole (pos m) (pos n) e = ap pos (natural_text_injective m n e)
one_whole (pos m) (negsuc n) e = absurd (plain_apart m (natural_text (suc n)) e)
one_whole (negsuc m) (pos n) e = absurd (plain_apart n (natural_text (suc m)) (sym e))
one_whole (negsuc m) (negsuc n) e =
    let same : natural_text (suc m) ≡ natural_text (suc n) = cc in
    let k : suc m ≡ suc n = natural_text_injective (suc m) (suc n) same in
    ap negsuc (omega arith)

one_register : (m n : ℕ) → register_text m ≡ register_text n → m ≡ n
one_register m n e = let same : natural_text m ≡ natural_text n = cc in natural_text_injective m n same

one_policy : (p q : Policy) → policy_name p ≡ policy_name q → p ≡ q
one_policy p q e = same_Some p q (sym (policy_again p) ∙ ap policy_named e ∙ policy_again q)

one_op : (p q : Op) → op_name p ≡ op_name q → p ≡ q
one_op p q e = same_Some p q (sym (op_again p) ∙ ap op_named e ∙ op_again q)

one_word : (p q : WordName) → word_name p ≡ word_name q → p ≡ q
one_word p q e = same_Some p q (sym (word_again p) ∙ ap word_named e ∙ word_again q)

first_same : {x y : ℕ} {xs ys : List ℕ} → x ∷ xs ≡ y ∷ ys → x ≡ y
first_same e = cc

no_letter : (cs t : List ℕ) → is_decimal t ≡ true → 114 ∷ cs ≡ t → ⊥
no_letter cs t h e = false≢true (ap is_decimal e ∙ h)

-- no whole number has the text of a register
register_apart : (n : ℕ) (k : ℤ) → register_text n ≡ whole_text k → ⊥
register_apart n (pos m) e = no_letter (natural_text n) (natural_text m) (decimal_of_text m).0 e
register_apart n (negsuc m) e = let first : ◌≡◌ {A = ℕ} 114 45 = first_same {x = 114} {y = 45} {xs = natural_text n} {ys = natural_text (suc m)} e in omega arith

one_operands : (xs ys : Operands) → operand_tokens xs ≡ operand_tokens ys → xs ≡ ys
one_operands (OneRegister a) (OneRegister x) e = ap OneRegister (one_register a x (heads e))
one_operands (TwoRegisters a b) (TwoRegisters x y) e =
    ap (λ n. TwoRegisters n b) (one_register a x (heads e)) ∙ ap (TwoRegisters x) (one_register b y (heads (tails e)))
one_operands (RegisterAndInt a j) (RegisterAndInt x k) e =
    ap (λ n. RegisterAndInt n j) (one_register a x (heads e)) ∙ ap (RegisterAndInt x) (one_whole j k (heads (tails e)))
one_operands (ThreeRegisters a b c) (ThreeRegisters x y z) e =
    ap (λ n. ThreeRegisters n b c) (one_register a x (heads e)) ∙ ap (λ n. ThreeRegisters x n c) (one_register b y (heads (tails e)))
    ∙ ap (ThreeRegisters x y) (one_register c z (heads (tails (tails e))))
one_operands (TwoRegisters a b) (RegisterAndInt x k) e = absurd (register_apart b k (heads (tails e)))
one_operands (RegisterAndInt a j) (TwoRegisters x y) e = absurd (register_apart y j (sym (heads (tails e))))
one_operands (OneRegister a) (TwoRegisters x y) e = cc
one_operands (OneRegister a) (RegisterAndInt x k) e = cc
one_operands (OneRegister a) (ThreeRegisters x y z) e = cc
one_operands (TwoRegisters a b) (OneRegister x) e = cc
one_operands (TwoRegisters a b) (ThreeRegisters x y z) e = cc
one_operands (RegisterAndInt a j) (OneRegister x) e = cc
one_operands (RegisterAndInt a j) (ThreeRegisters x y z) e = cc
one_operands (ThreeRegisters a b c) (OneRegister x) e = cc
one_operands (ThreeRegisters a b c) (TwoRegisters x y) e = cc
one_operands (ThreeRegisters a b c) (RegisterAndInt x k) e = cc

-- ---- the rounding apart from the operands
-- the tokens that name no rounding, and the first that one names
abbrev unless_named : Option Rounding → List ℕ → List (List ℕ) → List (List ℕ)
unless_named None t ts = t ∷ ts
unless_named (Some r) t ts = ts

abbrev or_later : Option Rounding → Option Rounding → Option Rounding
or_later None later = later
or_later (Some r) later = Some r

abbrev unnamed : List (List ℕ) → List (List ℕ)
unnamed [] = []
unnamed (t ∷ ts) = unless_named (rounding_named t) t (unnamed ts)

abbrev first_named : List (List ℕ) → Option Rounding
first_named [] = None
first_named (t ∷ ts) = or_later (rounding_named t) (first_named ts)

pub rounding_again : (r : Rounding) → rounding_named (rounding_name r) ≡ Some r
rounding_again Down = refl
rounding_again Zero = refl
rounding_again Even = refl

pub register_names_none : (n : ℕ) → rounding_named (register_text n) ≡ None
register_names_none n = refl

no_rounding_decimal : (r : Rounding) → is_decimal (rounding_name r) ≡ false
no_rounding_decimal Down = refl
no_rounding_decimal Zero = refl
no_rounding_decimal Even = refl

natural_names_none : (n : ℕ) → rounding_named (natural_text n) ≡ None
natural_names_none n = from (rounding_named (natural_text n)) refl
  where
    from : (o : Option Rounding) → rounding_named (natural_text n) ≡ o → o ≡ None
    from None is = refl
    from (Some r) is =
        let name = named_takes rounding_name (Down ∷ Zero ∷ Even ∷ []) (natural_text n) r is in
        absurd (false≢true (sym (no_rounding_decimal r) ∙ ap is_decimal name ∙ (decimal_of_text n).0))

pub whole_names_none : (k : ℤ) → rounding_named (whole_text k) ≡ None
whole_names_none (pos n) = natural_names_none n
whole_names_none (negsuc n) = refl

unnamed_rounding : (r : Option Rounding) → unnamed (rounding_tokens r) ≡ []
unnamed_rounding None = refl
unnamed_rounding (Some r) = ap (λ o. unless_named o (rounding_name r) []) (rounding_again r)

first_rounding : (r : Option Rounding) → first_named (rounding_tokens r) ≡ r
first_rounding None = refl
first_rounding (Some r) = ap (λ o. or_later o None) (rounding_again r)

unnamed_operands : (xs : Operands) (r : Option Rounding) → unnamed (operand_tokens xs ++ rounding_tokens r) ≡ operand_tokens xs
unnamed_operands (OneRegister a) r = ap (λ us. register_text a ∷ us) (unnamed_rounding r)
unnamed_operands (TwoRegisters a b) r = ap (λ us. register_text a ∷ register_text b ∷ us) (unnamed_rounding r)
unnamed_operands (RegisterAndInt a k) r =
    ap (λ o. register_text a ∷ unless_named o (whole_text k) (unnamed (rounding_tokens r))) (whole_names_none k) ∙ ap (λ us. register_text a ∷ whole_text k ∷ us) (unnamed_rounding r)
unnamed_operands (ThreeRegisters a b c) r = ap (λ us. register_text a ∷ register_text b ∷ register_text c ∷ us) (unnamed_rounding r)

named_operands : (xs : Operands) (r : Option Rounding) → first_named (operand_tokens xs ++ rounding_tokens r) ≡ r
named_operands (OneRegister a) r = first_rounding r
named_operands (TwoRegisters a b) r = first_rounding r
named_operands (RegisterAndInt a k) r = ap (λ o. or_later o (first_named (rounding_tokens r))) (whole_names_none k) ∙ first_rounding r
named_operands (ThreeRegisters a b c) r = first_rounding r

set_apart : (p : Policy) → policy_name p ≡ codes "set" → ⊥
set_apart p e = false≢true (sym (not_set p) ∙ ap (λ t. bytes_eq t (codes "set")) e)

one_tokens : (x y : ScriptLine) → line_tokens x ≡ line_tokens y → x ≡ y
one_tokens (SetTo d j) (SetTo e k) same = ap (λ n. SetTo n j) (one_register d e (heads same)) ∙ ap (SetTo e) (one_whole j k (heads (tails (tails same))))
one_tokens (SetTo d j) (Apply e p o xs r) same = absurd (set_apart p (sym (heads (tails same))))
one_tokens (Apply d p o xs r) (SetTo e k) same = absurd (set_apart p (heads (tails same)))
one_tokens (Apply d p o xs r) (Apply e q u ys t) same =
    let ends = tails (tails (tails same)) in
    let operands = one_operands xs ys (sym (unnamed_operands xs r) ∙ ap unnamed ends ∙ unnamed_operands ys t) in
    let rounding = sym (named_operands xs r) ∙ ap first_named ends ∙ named_operands ys t in
    ap (λ n. Apply n p o xs r) (one_register d e (heads same)) ∙ ap (λ n. Apply e n o xs r) (one_policy p q (heads (tails same)))
    ∙ ap (λ n. Apply e q n xs r) (one_op o u (heads (tails (tails same)))) ∙ ap (λ n. Apply e q u n r) operands ∙ ap (Apply e q u ys) rounding

pub one_line : OneLine
one_line x y e = one_tokens x y (sym (tokens_of_line x) ∙ ap tokens_of e ∙ tokens_of_line y)

one_naturals : (xs ys : List ℕ) → map natural_text xs ≡ map natural_text ys → xs ≡ ys
one_naturals [] [] e = refl
one_naturals [] (y ∷ ys) e = cc
one_naturals (x ∷ xs) [] e = cc
one_naturals (x ∷ xs) (y ∷ ys) e = ap (λ n. n ∷ xs) (natural_text_injective x y (heads e)) ∙ ap (λ ns. y ∷ ns) (one_naturals xs ys (tails e))

pub one_header : OneHeader
one_header x y e =
    let same : header_tokens x ≡ header_tokens y = sym (tokens_of_header x) ∙ ap tokens_of e ∙ tokens_of_header y in
    let made = λ (w : WordName) (n : ℕ) (ns : List ℕ). let h : ScriptHeader = record { word = w; first = n; others = ns } in h in
    ap (λ w. made w x.first x.others) (one_word x.word y.word (heads same)) ∙ ap (λ n. made y.word n x.others) (natural_text_injective x.first y.first (heads (tails same)))
    ∙ ap (made y.word y.first) (one_naturals x.others y.others (tails (tails same)))
