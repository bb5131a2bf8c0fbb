-- A line's text is read as the line, and only a line's text is.
use Rattle.std.proofs.Common.{◌≡◌, ℕ, List, [], ◌∷◌, ◌++◌, ℤ, Option, Some, None, Bool, true, false, cond, refl, sym, ap, subst, ◌∙◌, IfSome, IfNone, codes}
use Rattle.std.specs.Str.{bytes_eq}
use Rattle.std.specs.List.{join_with_byte}
use Rattle.std.proofs.lemmas.List.Splits.{join_with_byte-slice_split}
use Rattle.std.proofs.lemmas.Slice.Eq.{bytes_eq-Decides}
use Rattle.std.proofs.lemmas.Option.{same_Some, none-some}
use Rattle.fixed_word.specs.declared.rounding.Rounding.{Rounding}
use Rattle.fixed_word.specs.declared.rounding.Rounding.TheVariants.{Down, Zero, Even}
use Rattle.fixed_script.specs.declared.names.Policy.{Policy}
use Rattle.fixed_script.specs.declared.names.Policy.TheVariants.{Checked, Saturating, Wrapping, Overflowing, Strict}
use Rattle.fixed_script.specs.declared.names.Op.{Op}
use Rattle.fixed_script.specs.declared.line.Arity.{Arity}
use Rattle.fixed_script.specs.declared.line.Arity.TheVariants.{Unary, Binary, ByInteger, Ternary}
use Rattle.fixed_script.specs.declared.line.Line.{Line}
use Rattle.fixed_script.specs.declared.line.Line.TheVariants.{Set, One, Two, Int, Three}
use Rattle.fixed_word.specs.Decimal.{whole_text}
use Rattle.fixed_script.specs.Names.{policy_name, policy_named, op_name, op_named, all_ops, rounding_name, rounding_named, arity}
use Rattle.fixed_script.specs.Text.{ScriptLine, SetTo, Apply, Operands, OneRegister, TwoRegisters, RegisterAndInt, ThreeRegisters, arity_of, takes_rounding, may_round, IsLine, register_text, line_tokens, line_text, operand_tokens}
use Rattle.fixed_script.proofs.RoundingTokens.{rounding_tokens}
use Rattle.fixed_digits.specs.Numerals.{cap}
use Rattle.fixed_script.specs.Capped.{cap_whole, cap_operands, capped, checked_script_line, literal_value, of_arity, if_rounds}
use Rattle.fixed_text.specs.Tokens.{◌>>=◌, next_by, at_end, tokens_of}
use Rattle.fixed_script.specs.inside.Parser.{register_at, literal_at, set_at, named_at, rounding_at, ends_by, operands_at, apply_at, line_at}
use Rattle.fixed_text.proofs.Steps.{guard_some, bind_some, next_some, end_some, named_takes}
use Rattle.fixed_script.proofs.Readers.{register_takes, register_again, literal_takes, literal_again, policy_again, op_again}
use Rattle.fixed_script.proofs.Joined.{tokens_of_line}

-- the line that was read, its tokens and what it denotes
abbrev pub IsFound : List (List ℕ) → Line → Type 0
IsFound ts line = (l : ScriptLine) × IsLine l × (line_tokens l ≡ ts) × (checked_script_line line ≡ Some (capped l))

set_takes : (dest : ℕ) (ts : List (List ℕ)) (line : Line) → set_at dest ts ≡ Some line → (k : ℤ) × (whole_text k ∷ [] ≡ ts) × (checked_script_line line ≡ Some (SetTo dest (cap_whole k)))
unfolding set_at
set_takes dest ts line e =
    let t = next_some literal_at ts (λ literal. at_end literal.1 (Set dest literal.0)) line e in
    let k = literal_takes t.token t.value t.reads in
    let done = end_some t.rest (Set dest t.value) line t.goes_on in
    (k.0, ap (λ u. u ∷ []) k.1 ∙ ap (λ us. t.token ∷ us) (sym done.0) ∙ sym t.is, ap checked_script_line (sym done.1) ∙ ap (λ v. Some (SetTo dest v)) k.2)

-- the rounding that was read, or none
rounding_read : (op : Op) (ts : List (List ℕ)) (r : Option Rounding) → rounding_at op ts ≡ Some r → (may_round op r ≡ true) × (rounding_tokens r ≡ ts)
unfolding rounding_at
rounding_read op [] r e = subst (λ q. (may_round op q ≡ true) × (rounding_tokens q ≡ [])) (same_Some None r e) (refl, refl)
rounding_read op (t ∷ ts) r e =
    let p = bind_some (named_at op (t ∷ ts)) (λ q. Some (Some q)) r e in
    let n = next_some rounding_named (t ∷ ts) (λ x. cond (takes_rounding op) (at_end x.1 x.0) None) p.0 p.1 in
    let g = guard_some (takes_rounding op) (at_end n.rest n.value) p.0 n.goes_on in
    let done = end_some n.rest n.value p.0 g.1 in
    let name = named_takes rounding_name (Down ∷ Zero ∷ Even ∷ []) n.token n.value n.reads in
    let again = ap (λ q. rounding_name q ∷ []) (sym done.1) ∙ ap (λ x. x ∷ []) name ∙ ap (λ us. n.token ∷ us) (sym done.0) ∙ sym n.is in
    subst (λ q. (may_round op q ≡ true) × (rounding_tokens q ≡ t ∷ ts)) (same_Some (Some p.0) r p.2) (g.0, again)

rounding_takes : (op : Op) (ts : List (List ℕ)) (line : Option Rounding → Line) (found : Line) → ends_by op ts line ≡ Some found → (r : Option Rounding) × (may_round op r ≡ true) × (rounding_tokens r ≡ ts) × (line r ≡ found)
rounding_takes op ts line found e =
    let p = bind_some (rounding_at op ts) (λ r. Some (line r)) found e in
    let q = rounding_read op ts p.0 p.1 in
    (p.0, q.0, q.1, same_Some (line p.0) found p.2)

rounds_some : (op : Op) (r : Option Rounding) (line : Option ScriptLine) → may_round op r ≡ true → if_rounds op r line ≡ line
rounds_some op r line m = ap (λ b. cond b line None) m

rounding_again : (op : Op) (r : Option Rounding) → may_round op r ≡ true → rounding_at op (rounding_tokens r) ≡ Some r
unfolding rounding_at
rounding_again op None m = refl
rounding_again op (Some Down) m = ap (λ b. cond b (Some Down) None >>= λ q. Some (Some q)) m
rounding_again op (Some Zero) m = ap (λ b. cond b (Some Zero) None >>= λ q. Some (Some q)) m
rounding_again op (Some Even) m = ap (λ b. cond b (Some Even) None >>= λ q. Some (Some q)) m

-- the operands that were read, and the rounding
abbrev AreOperands : ℕ → Policy → Op → ℕ → List (List ℕ) → Line → Type 0
AreOperands dest policy op a ts line =
    (xs : Operands) × (r : Option Rounding) × (arity op ≡ arity_of xs) × (may_round op r ≡ true) × (operand_tokens xs ++ rounding_tokens r ≡ register_text a ∷ ts) × (checked_script_line line ≡ Some (Apply dest policy op (cap_operands xs) r))

operands_takes : (s : Arity) (dest : ℕ) (policy : Policy) (op : Op) (a : ℕ) (ts : List (List ℕ)) (line : Line) → arity op ≡ s → operands_at s dest policy op (cap a) ts ≡ Some line → AreOperands dest policy op a ts line
unfolding operands_at
operands_takes Unary dest policy op a ts line s e =
    let d = rounding_takes op ts (One dest policy op (cap a)) line e in (
      OneRegister a,
      d.0,
      s,
      d.1,
      ap (λ us. register_text a ∷ us) d.2,
      ap checked_script_line (sym d.3) ∙ rounds_some op d.0 (of_arity (arity op) Unary (Apply dest policy op (OneRegister (cap a)) d.0)) d.1 ∙ ap (λ s. of_arity s Unary (Apply dest policy op (OneRegister (cap a)) d.0)) s,
    )
operands_takes Binary dest policy op a ts line s e =
    let t = next_some register_at ts (λ b. ends_by op b.1 (Two dest policy op (cap a) b.0)) line e in
    let b = register_takes t.token t.value t.reads in
    let d = rounding_takes op t.rest (Two dest policy op (cap a) t.value) line t.goes_on in (
      TwoRegisters a b.0,
      d.0,
      s,
      d.1,
      ap (λ u. register_text a ∷ u ∷ rounding_tokens d.0) b.1 ∙ ap (λ us. register_text a ∷ t.token ∷ us) d.2 ∙ ap (λ us. register_text a ∷ us) (sym t.is),
      ap checked_script_line (sym d.3) ∙ rounds_some op d.0 (of_arity (arity op) Binary (Apply dest policy op (TwoRegisters (cap a) t.value) d.0)) d.1
          ∙ ap (λ s. of_arity s Binary (Apply dest policy op (TwoRegisters (cap a) t.value) d.0)) s ∙ ap (λ v. Some (Apply dest policy op (TwoRegisters (cap a) v) d.0)) b.2,
    )
operands_takes ByInteger dest policy op a ts line s e =
    let t = next_some literal_at ts (λ k. ends_by op k.1 (Int dest policy op (cap a) k.0)) line e in
    let k = literal_takes t.token t.value t.reads in
    let d = rounding_takes op t.rest (Int dest policy op (cap a) t.value) line t.goes_on in (
      RegisterAndInt a k.0,
      d.0,
      s,
      d.1,
      ap (λ u. register_text a ∷ u ∷ rounding_tokens d.0) k.1 ∙ ap (λ us. register_text a ∷ t.token ∷ us) d.2 ∙ ap (λ us. register_text a ∷ us) (sym t.is),
      ap checked_script_line (sym d.3) ∙ rounds_some op d.0 (of_arity (arity op) ByInteger (Apply dest policy op (RegisterAndInt (cap a) (literal_value t.value)) d.0)) d.1
          ∙ ap (λ s. of_arity s ByInteger (Apply dest policy op (RegisterAndInt (cap a) (literal_value t.value)) d.0)) s ∙ ap (λ v. Some (Apply dest policy op (RegisterAndInt (cap a) v) d.0)) k.2,
    )
operands_takes Ternary dest policy op a ts line s e =
    let t = next_some register_at ts (λ b. next_by register_at b.1 >>= λ c. ends_by op c.1 (Three dest policy op (cap a) b.0 c.0)) line e in
    let b = register_takes t.token t.value t.reads in
    let u = next_some register_at t.rest (λ c. ends_by op c.1 (Three dest policy op (cap a) t.value c.0)) line t.goes_on in
    let c = register_takes u.token u.value u.reads in
    let d = rounding_takes op u.rest (Three dest policy op (cap a) t.value u.value) line u.goes_on in (
      ThreeRegisters a b.0 c.0,
      d.0,
      s,
      d.1,
      ap (λ x. register_text a ∷ x ∷ register_text c.0 ∷ rounding_tokens d.0) b.1 ∙ ap (λ x. register_text a ∷ t.token ∷ x ∷ rounding_tokens d.0) c.1
          ∙ ap (λ us. register_text a ∷ t.token ∷ u.token ∷ us) d.2 ∙ ap (λ us. register_text a ∷ t.token ∷ us) (sym u.is) ∙ ap (λ us. register_text a ∷ us) (sym t.is),
      ap checked_script_line (sym d.3) ∙ rounds_some op d.0 (of_arity (arity op) Ternary (Apply dest policy op (ThreeRegisters (cap a) t.value u.value) d.0)) d.1
          ∙ ap (λ s. of_arity s Ternary (Apply dest policy op (ThreeRegisters (cap a) t.value u.value) d.0)) s
          ∙ ap (λ v. Some (Apply dest policy op (ThreeRegisters (cap a) v u.value) d.0)) b.2 ∙ ap (λ v. Some (Apply dest policy op (ThreeRegisters (cap a) (cap b.0) v) d.0)) c.2,
    )

abbrev IsApplied : ℕ → Policy → List (List ℕ) → Line → Type 0
IsApplied dest policy ts line =
    (op : Op) × (xs : Operands) × (r : Option Rounding) × (arity op ≡ arity_of xs) × (may_round op r ≡ true) × (op_name op ∷ (operand_tokens xs ++ rounding_tokens r) ≡ ts) × (checked_script_line line ≡ Some (Apply dest policy op (cap_operands xs) r))

apply_takes : (dest : ℕ) (policy : Policy) (ts : List (List ℕ)) (line : Line) → apply_at dest policy ts ≡ Some line → IsApplied dest policy ts line
unfolding apply_at
apply_takes dest policy ts line e =
    let t = next_some op_named ts (λ op. next_by register_at op.1 >>= λ a. operands_at (arity op.0) dest policy op.0 a.0 a.1) line e in
    let name = named_takes op_name all_ops t.token t.value t.reads in
    let u = next_some register_at t.rest (λ a. operands_at (arity t.value) dest policy t.value a.0 a.1) line t.goes_on in
    let a = register_takes u.token u.value u.reads in
    let xs = operands_takes (arity t.value) dest policy t.value a.0 u.rest line refl (ap (λ v. operands_at (arity t.value) dest policy t.value v u.rest) (sym a.2) ∙ u.goes_on) in (
      t.value,
      xs.0,
      xs.1,
      xs.2,
      xs.3,
      ap (λ us. op_name t.value ∷ us) xs.4 ∙ ap (λ x. x ∷ register_text a.0 ∷ u.rest) name ∙ ap (λ x. t.token ∷ x ∷ u.rest) a.1 ∙ ap (λ us. t.token ∷ us) (sym u.is) ∙ sym t.is,
      xs.5,
    )

-- what follows the destination
abbrev after_name : ℕ → List ℕ → List (List ℕ) → Option Line
after_name dest name rest = cond (bytes_eq name (codes "set")) (set_at dest rest) (policy_named name >>= λ policy. apply_at dest policy rest)

name_takes : (n : ℕ) (name : List ℕ) (rest : List (List ℕ)) (line : Line) (b : Bool) → bytes_eq name (codes "set") ≡ b → cond b (set_at (cap n) rest) (policy_named name >>= λ policy. apply_at (cap n) policy rest) ≡ Some line → IsFound (register_text n ∷ name ∷ rest) line
name_takes n name rest line true is e =
    let s = set_takes (cap n) rest line e in
    (SetTo n s.0, tt, ap (λ x. register_text n ∷ x ∷ whole_text s.0 ∷ []) (sym ((bytes_eq-Decides name (codes "set")).0 is)) ∙ ap (λ us. register_text n ∷ name ∷ us) s.1, s.2)
name_takes n name rest line false is e =
    let p = bind_some (policy_named name) (λ policy. apply_at (cap n) policy rest) line e in
    let found = apply_takes (cap n) p.0 rest line p.2 in (
      Apply n p.0 found.0 found.1 found.2,
      (found.3, found.4),
      ap (λ x. register_text n ∷ x ∷ op_name found.0 ∷ (operand_tokens found.1 ++ rounding_tokens found.2)) (named_takes policy_name (Checked ∷ Saturating ∷ Wrapping ∷ Overflowing ∷ Strict ∷ []) name p.0 p.1)
          ∙ ap (λ us. register_text n ∷ name ∷ us) found.5,
      found.6,
    )

pub line_takes : (ts : List (List ℕ)) (line : Line) → line_at ts ≡ Some line → IsFound ts line
unfolding line_at
line_takes ts line e =
    let t = next_some register_at ts (λ dest. next_by Some dest.1 >>= λ name. after_name dest.0 name.0 name.1) line e in
    let d = register_takes t.token t.value t.reads in
    let u = next_some Some t.rest (λ name. after_name t.value name.0 name.1) line t.goes_on in
    let f = name_takes d.0 u.value u.rest line (bytes_eq u.value (codes "set")) refl (ap (λ v. after_name v u.value u.rest) (sym d.2) ∙ u.goes_on) in
    (f.0, f.1, f.2 ∙ ap (λ x. x ∷ u.value ∷ u.rest) d.1 ∙ ap (λ x. t.token ∷ x ∷ u.rest) (sym (same_Some _ _ u.reads)) ∙ ap (λ us. t.token ∷ us) (sym u.is) ∙ sym t.is, f.3)

pub not_set : (p : Policy) → bytes_eq (policy_name p) (codes "set") ≡ false
not_set Checked = refl
not_set Saturating = refl
not_set Wrapping = refl
not_set Overflowing = refl
not_set Strict = refl

pub line_again : (l : ScriptLine) → IsLine l → (line : Line) × (line_at (line_tokens l) ≡ Some line)
unfolding line_at set_at apply_at operands_at
line_again (SetTo dest k) is =
    let l = literal_again k in
    (Set (cap dest) l.0, rw (register_again dest, l.1) refl)
line_again (Apply dest policy op (OneRegister a) r) is =
    (One (cap dest) policy op (cap a) r, rw (register_again dest, not_set policy, policy_again policy, op_again op, register_again a, is.0, rounding_again op r is.1) refl)
line_again (Apply dest policy op (TwoRegisters a b) r) is =
    (Two (cap dest) policy op (cap a) (cap b) r, rw (register_again dest, not_set policy, policy_again policy, op_again op, register_again a, is.0, register_again b, rounding_again op r is.1) refl)
line_again (Apply dest policy op (RegisterAndInt a k) r) is =
    let l = literal_again k in
    (Int (cap dest) policy op (cap a) l.0 r, rw (register_again dest, not_set policy, policy_again policy, op_again op, register_again a, is.0, l.1, rounding_again op r is.1) refl)
line_again (Apply dest policy op (ThreeRegisters a b c) r) is =
    (Three (cap dest) policy op (cap a) (cap b) (cap c) r, rw (register_again dest, not_set policy, policy_again policy, op_again op, register_again a, is.0, register_again b, register_again c, rounding_again op r is.1) refl)

-- the piece of which nothing was read is no line's text
pub read_none : (piece : List ℕ) (r : Option Line) → r ≡ line_at (tokens_of piece) → IfNone r ((line : ScriptLine) → IsLine line → line_text line ≡ piece → ⊥)
read_none piece None e = λ l is text.
    let again = line_again l is in
    none-some again.0 (e ∙ ap (λ b. line_at (tokens_of b)) (sym text) ∙ ap line_at (tokens_of_line l) ∙ again.1)
read_none piece (Some line) e = tt

pub read_some : (piece : List ℕ) (r : Option Line) → r ≡ line_at (tokens_of piece) → IfSome r (λ line. (l : ScriptLine) × IsLine l × (line_text l ≡ piece) × (checked_script_line line ≡ Some (capped l)))
read_some piece None e = tt
read_some piece (Some line) e =
    let f = line_takes (tokens_of piece) line (sym e) in
    (f.0, f.1, ap (join_with_byte 32) f.2 ∙ join_with_byte-slice_split 32 piece, f.3)
