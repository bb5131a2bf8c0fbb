-- What the parts of a quick step return.
use Rattle.std.specs.Prelude.{◌≡◌, ℕ, Bool, List, map, slice_index_or, true}
use Rattle.std.specs.List.{All}
use Rattle.fixed_word.specs.Format.{fits}
use Rattle.fixed_script.specs.declared.line.Arity.{Arity}
use Rattle.fixed_script.specs.declared.line.Arity.TheVariants.{ByInteger}
use Rattle.fixed_machine.specs.Machine.{Cell, cell_at, integer}
use Rattle.fixed_machine.specs.declared.quick.QuickLine.{QuickLine}
use Rattle.fixed_machine.specs.inside.Quick.{quick_number}

-- the second operand of an operation of that arity: the number of the line, which fits, or its register
abbrev pub IsSecond : Bool → ℕ → List Cell → QuickLine → Arity → Cell → Type 0
IsSecond signed n cells line ByInteger cell = (cell ≡ integer (quick_number line)) × (fits signed n (quick_number line) ≡ true)
IsSecond signed n cells line _ cell = cell ≡ cell_at cells line.b

-- the numbers of fraction bits of registers
abbrev pub fractions_in : List Cell → List ℕ
fractions_in cells = map (λ cell. cell.fraction) cells

-- all are the first one
abbrev pub AreEqual : List ℕ → Type 0
AreEqual numbers = All (λ n. n ≡ slice_index_or numbers 0 0) numbers
