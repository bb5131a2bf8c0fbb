-- What the parser returns, as a function of the tokens.
use Rattle.std.specs.Prelude.{ℕ, List, Option, Some, None, if◌then◌else◌, codes}
use Rattle.std.specs.Str.{bytes_eq}
use Rattle.fixed_text.specs.Numbers.{natural_in, numbered_in, whole_in}
use Rattle.fixed_text.specs.Tokens.{◌>>=◌, next_by, at_end}
use Rattle.fixed_text.specs.Words.{word_named}
use Rattle.fixed_interval.specs.declared.op.IntervalOp.{IntervalOp}
use Rattle.fixed_interval.specs.Lines.{op_in}
use Rattle.fixed_interval.specs.Text.{IntervalHeader, IntervalRequest, IntervalLine, SetTo, OfTwo, RootOf}

abbrev pub register_in : List ℕ → Option ℕ
register_in = numbered_in 105

unfoldable pub format_at : List (List ℕ) → Option IntervalHeader
format_at ts = do
  word ← next_by word_named ts
  frac ← next_by natural_in word.1
  count ← next_by natural_in frac.1
  at_end count.1 (record { word = word.0; frac = frac.0; count = count.0 })

unfoldable pub header_at : List (List ℕ) → Option IntervalHeader
header_at ts = do
  name ← next_by Some ts
  if bytes_eq name.0 (codes "interval") then format_at name.1 else None

unfoldable pub set_at : List (List ℕ) → Option IntervalRequest
set_at ts = do
  low ← next_by whole_in ts
  high ← next_by whole_in low.1
  at_end high.1 (SetTo low.0 high.0)

unfoldable pub two_at : IntervalOp → List (List ℕ) → Option IntervalRequest
two_at op ts = do
  a ← next_by register_in ts
  b ← next_by register_in a.1
  at_end b.1 (OfTwo op a.0 b.0)

unfoldable pub root_at : List (List ℕ) → Option IntervalRequest
root_at ts = do
  a ← next_by register_in ts
  at_end a.1 (RootOf a.0)

-- what follows a name
abbrev pub request_by : List ℕ → List (List ℕ) → Option IntervalRequest
request_by name ts =
    if bytes_eq name (codes "set") then set_at ts else (if bytes_eq name (codes "sqrt") then root_at ts else (op_in name >>= λ op. two_at op ts))

unfoldable pub request_at : List (List ℕ) → Option IntervalRequest
request_at ts = do
  name ← next_by Some ts
  request_by name.0 name.1

unfoldable pub line_at : List (List ℕ) → Option IntervalLine
line_at ts = do
  dest ← next_by register_in ts
  request ← request_at dest.1
  Some (record { dest = dest.0; request = request })
