-- What the call for one piece returns.
use Rattle.std.specs.Prelude.{◌≡◌, ◌++◌, ℕ, List, Result, Ok, Err}
use Rattle.fixed_text.specs.declared.fault.RunFault.{RunFault}
use Rattle.fixed_text.specs.declared.fault.RunFault.TheVariants.{Syntax, OutOfRange, Memory}
use Rattle.fixed_text.specs.Readings.{PieceCause, NoForm, NoRange}

-- the piece has that cause; or memory ran out
abbrev pub IsFaultOfPiece : {A : Type 0} → Result A PieceCause → RunFault → Type 0
IsFaultOfPiece step (Syntax k) = step ≡ Err (NoForm k)
IsFaultOfPiece step (OutOfRange k) = step ≡ Err (NoRange k)
IsFaultOfPiece step Memory = Unit {0}

-- the piece changes the state and adds what it prints
abbrev pub IsStepOfPiece : {S : Type 0} → Result (S × List ℕ) PieceCause → Result (Unit {0}) RunFault → S → List ℕ → List ℕ → Type 0
IsStepOfPiece step (Ok _) state before now = (bytes : List ℕ) × (step ≡ Ok (state, bytes)) × (now ≡ before ++ bytes)
IsStepOfPiece step (Err fault) state before now = IsFaultOfPiece step fault
