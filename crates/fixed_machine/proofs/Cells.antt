-- Registers as cells.
use Rattle.std.proofs.Common.{◌≡◌, ◌<◌, ◌∙◌, Bool, ℕ, pos, get_or, set, length, List, sym}
use Rattle.std.proofs.lemmas.List.{map-set, get_or-map}
use Rattle.fixed_word.specs.Format.{with_sign}
use Rattle.fixed_machine.specs.Machine.{cell_at, integer}
use Rattle.fixed_machine.specs.Step.{cell_of, cells_of}
use Rattle.fixed_machine.specs.declared.register.Register.{Register}

-- a register that is written is a cell that is written
pub signed_cell : (rs : List Register) (dest m : ℕ) (b : Bool) (d : Register) → dest < length rs →
    cells_of (set rs dest (record { magnitude = m; fraction = (get_or rs dest d).fraction; below_zero = b })) ≡ set (cells_of rs) dest (record { bits = with_sign b m; fraction = (cell_at (cells_of rs) dest).fraction })
signed_cell rs dest m b d there =
    map-set cell_of rs dest _
    ∙ (λ i. set (cells_of rs) dest (record { bits = with_sign b m; fraction = (sym (get_or-map cell_of rs dest d (integer (pos 0)) there) i).fraction }))
