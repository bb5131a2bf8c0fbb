-- A line of a demonstration, from its destination, the names of its policy and operation, and its operands.
use Rattle.std.proofs.Common.{◌≡◌, ◌+◌, ◌/◌, ◌%◌, ℕ, suc, List, [], ◌∷◌, ◌++◌, append_assoc, add-one, map, get_or, None, Result, OnOk, pos, refl, sym, ap, ◌∙◌, subst, arith, codes}
use Rattle.std.specs.List.{flat_map, join_with_byte}
use Rattle.std.proofs.lemmas.List.{append-nil}
use Rattle.std.proofs.lemmas.List.Folds.{flat_map-map}
use Rattle.std.proofs.lemmas.Grind.{flat_map-append}
use Rattle.fixed_word.specs.Decimal.{natural_text}
use Rattle.fixed_script.specs.declared.names.Policy.{Policy}
use Rattle.fixed_script.specs.declared.names.Op.{Op}
use Rattle.fixed_script.specs.Names.{policy_name, op_name}
use Rattle.fixed_script.specs.Text.{ScriptLine, SetTo, Apply, Operands, register_text, operand_tokens, line_text, header_text}
use Rattle.fixed_calc.specs.Demo.{choices, drawn_line, state_at, demo_lines, demo_text, demo_header}
use Rattle.fixed_machine.specs.Answers.{ended}
use Rattle.fixed_calc.specs.inside.Draws.{next_state, draw}
use Rattle.fixed_digits.proofs.Decimals.{natural_text_digit, natural_text_step}

-- a space before each token but the first
spaced : (t : List ℕ) (ts : List (List ℕ)) → join_with_byte 32 (t ∷ ts) ≡ t ++ flat_map (λ u. 32 ∷ u) ts
spaced t [] = sym (append-nil t)
spaced t (u ∷ ts) = ap (λ us. t ++ (32 ∷ us)) (spaced u ts)

abbrev operands_text : List ℕ → List ℕ
operands_text registers = flat_map (λ register. 32 ∷ register_text register) registers

-- a text, and the line behind it, before its newline
applied_line : (old : List ℕ) (d : ℕ) (policy : Policy) (op : Op) (xs : Operands) (registers names : List ℕ) → operand_tokens xs ≡ map register_text registers → names ≡ (32 ∷ policy_name policy) ++ (32 ∷ op_name op)
    → old ++ register_text d ++ names ++ operands_text registers ≡ old ++ line_text (Apply d policy op xs None)
applied_line old d policy op xs registers names tokens is =
    let p = 32 ∷ policy_name policy in
    let o = 32 ∷ op_name op in
    let rest = operands_text registers in
    append_assoc (old ++ register_text d) names rest ∙ append_assoc old (register_text d) (names ++ rest)
    ∙ ap (λ us. old ++ (register_text d ++ us)) (ap (λ ns. ns ++ rest) is ∙ append_assoc p o rest ∙ ap (λ us. p ++ (o ++ us)) (sym (flat_map-map (λ u. 32 ∷ u) register_text registers) ∙ ap (flat_map (λ u. 32 ∷ u)) (sym tokens)))
    ∙ ap (λ us. old ++ us) (sym (spaced (register_text d) (policy_name policy ∷ op_name op ∷ operand_tokens xs)))
    ∙ ap (λ us. old ++ join_with_byte 32 (register_text d ∷ policy_name policy ∷ op_name op ∷ us)) (sym (append-nil (operand_tokens xs)))

-- the line of a draw whose last digit is known
drawn_at : (t o : ℕ) → t / 512 % 8 ≡ o → drawn_line t ≡ get_or (choices t (t % 8) (t / 8 % 8) (t / 64 % 8)) o (SetTo (t % 8) (pos t))
unfolding drawn_line
drawn_at t o is =
    let lowest : t / 1 % 8 ≡ t % 8 = omega arith in
    λ i. get_or (choices t (lowest i) (t / 8 % 8) (t / 64 % 8)) (is i) (SetTo (lowest i) (pos t))

-- such a line was added
pub adds_set : {T E : Type 0} (r : Result T E) (old new : List ℕ) (t : ℕ) → t / 512 % 8 ≡ 0 → OnOk r (new ≡ old ++ ended (line_text (SetTo (t % 8) (pos t)))) → OnOk r (new ≡ old ++ ended (line_text (drawn_line t)))
adds_set r old new t is h = subst (λ (l : ScriptLine). OnOk r (new ≡ old ++ ended (line_text l))) (sym (drawn_at t 0 is)) h

pub adds_applied : {T E : Type 0} (r : Result T E) (old new : List ℕ) (t o : ℕ) (policy : Policy) (op : Op) (xs : Operands) (registers names : List ℕ) → t / 512 % 8 ≡ o
    → get_or (choices t (t % 8) (t / 8 % 8) (t / 64 % 8)) o (SetTo (t % 8) (pos t)) ≡ Apply (t % 8) policy op xs None → operand_tokens xs ≡ map register_text registers → names ≡ (32 ∷ policy_name policy) ++ (32 ∷ op_name op)
    → OnOk r (new ≡ old ++ register_text (t % 8) ++ names ++ ended (operands_text registers)) → OnOk r (new ≡ old ++ ended (line_text (drawn_line t)))
adds_applied r old new t o policy op xs registers names is line tokens names_are h =
    let front = old ++ register_text (t % 8) ++ names in
    let line_is = applied_line old (t % 8) policy op xs registers names tokens names_are in
    let text : front ++ ended (operands_text registers) ≡ old ++ ended (line_text (Apply (t % 8) policy op xs None)) =
    sym (append_assoc front (operands_text registers) (10 ∷ [])) ∙ ap ended line_is ∙ append_assoc old (line_text (Apply (t % 8) policy op xs None)) (10 ∷ []) in
    subst (λ (l : ScriptLine). OnOk r (new ≡ old ++ ended (line_text l))) (sym (drawn_at t o is ∙ line))
    (subst (λ (text : List ℕ). OnOk r (new ≡ text)) text h)

-- ---- the script so far
pub state_zero : state_at 0 ≡ 1
unfolding state_at
state_zero = refl

pub state_more : (i : ℕ) → state_at (i + 1) ≡ next_state (state_at i)
unfolding state_at
state_more i = ap state_at (add-one i)

pub demo_text_zero : demo_text 0 ≡ codes "i64 32 32 32 32 32 32 32 32\n"
unfolding demo_text demo_lines
demo_text_zero = rw natural_32 refl
  where
    natural_32 : natural_text 32 ≡ codes "32"
    natural_32 = natural_text_step 3 2 (omega arith) (omega arith) ∙ ap (λ t. t ++ (50 ∷ [])) (natural_text_digit 3 (omega arith) (omega arith))

demo_text_next : (i : ℕ) → demo_text (suc i) ≡ demo_text i ++ ended (line_text (drawn_line (draw (state_at (suc i)))))
unfolding demo_text demo_lines
demo_text_next i =
    let l = drawn_line (draw (state_at (suc i))) in
    let text : ScriptLine → List ℕ = λ l. ended (line_text l) in
    let header = ended (header_text demo_header) in
    ap (λ us. header ++ us) (flat_map-append text (demo_lines i) (l ∷ []) ∙ ap (λ us. flat_map text (demo_lines i) ++ us) (append-nil (text l)))
    ∙ sym (append_assoc header (flat_map text (demo_lines i)) (text l))

pub demo_text_more : (i : ℕ) → demo_text (i + 1) ≡ demo_text i ++ ended (line_text (drawn_line (draw (state_at (i + 1)))))
demo_text_more i = ap demo_text (add-one i) ∙ demo_text_next i ∙ ap (λ k. demo_text i ++ ended (line_text (drawn_line (draw (state_at k))))) (sym (add-one i))
