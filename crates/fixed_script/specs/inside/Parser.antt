-- What the parser returns, as a function of the tokens.
use Rattle.std.specs.Prelude.{ℕ, ◌==◌, if◌then◌else◌, List, [], ◌∷◌, Option, Some, None, codes}
use Rattle.std.specs.Option.{option_map}
use Rattle.std.specs.Str.{bytes_eq}
use Rattle.fixed_text.specs.Tokens.{◌>>=◌, next_by, at_end}
use Rattle.fixed_digits.specs.Numerals.{natural_at}
use Rattle.fixed_word.specs.declared.rounding.Rounding.{Rounding}
use Rattle.fixed_script.specs.declared.names.Policy.{Policy}
use Rattle.fixed_script.specs.declared.names.Op.{Op}
use Rattle.fixed_script.specs.declared.line.Arity.{Arity}
use Rattle.fixed_script.specs.declared.line.Arity.TheVariants.{Unary, Binary, ByInteger, Ternary}
use Rattle.fixed_text.specs.declared.decimal.Decimal.{Decimal}
use Rattle.fixed_text.specs.Decimals.{decimal_of}
use Rattle.fixed_text.specs.Numbers.{whole_in}
use Rattle.fixed_script.specs.declared.line.Line.{Line}
use Rattle.fixed_script.specs.declared.line.Line.TheVariants.{Set, One, Two, Int, Three}
use Rattle.fixed_script.specs.Names.{policy_named, op_named, rounding_named, arity}
use Rattle.fixed_script.specs.Text.{takes_rounding}

unfoldable pub register_at : List ℕ → Option ℕ
register_at [] = None
register_at (c ∷ cs) = if c == 114 then natural_at cs else None

abbrev pub literal_at : List ℕ → Option Decimal
literal_at token = option_map decimal_of (whole_in token)

unfoldable pub set_at : ℕ → List (List ℕ) → Option Line
set_at dest ts = do
  literal ← next_by literal_at ts
  at_end literal.1 (Set dest literal.0)

-- the rounding that the last token names
abbrev pub named_at : Op → List (List ℕ) → Option Rounding
named_at op ts = do
  rounding ← next_by rounding_named ts
  if takes_rounding op then at_end rounding.1 rounding.0 else None

-- a rounding or none, and then no token
unfoldable pub rounding_at : Op → List (List ℕ) → Option (Option Rounding)
rounding_at op [] = Some None
rounding_at op (t ∷ ts) = named_at op (t ∷ ts) >>= λ rounding. Some (Some rounding)

-- the line that takes a rounding, or none, at its end
abbrev pub ends_by : Op → List (List ℕ) → (Option Rounding → Line) → Option Line
ends_by op ts line = rounding_at op ts >>= λ rounding. Some (line rounding)

unfoldable pub operands_at : Arity → ℕ → Policy → Op → ℕ → List (List ℕ) → Option Line
operands_at Unary dest policy op a ts = ends_by op ts (One dest policy op a)
operands_at Binary dest policy op a ts = do
  b ← next_by register_at ts
  ends_by op b.1 (Two dest policy op a b.0)
operands_at ByInteger dest policy op a ts = do
  literal ← next_by literal_at ts
  ends_by op literal.1 (Int dest policy op a literal.0)
operands_at Ternary dest policy op a ts = do
  b ← next_by register_at ts
  c ← next_by register_at b.1
  ends_by op c.1 (Three dest policy op a b.0 c.0)

unfoldable pub apply_at : ℕ → Policy → List (List ℕ) → Option Line
apply_at dest policy ts = do
  op ← next_by op_named ts
  a ← next_by register_at op.1
  operands_at (arity op.0) dest policy op.0 a.0 a.1

unfoldable pub line_at : List (List ℕ) → Option Line
line_at ts = do
  dest ← next_by register_at ts
  name ← next_by Some dest.1
  if bytes_eq name.0 (codes "set") then set_at dest.0 name.1 else policy_named name.0 >>= λ policy. apply_at dest.0 policy name.1
