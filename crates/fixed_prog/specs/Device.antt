-- An adapter as contracts see it.
use Rattle.std.specs.Prelude.{ℕ}

-- the device that is read or written, and how often it failed
pub record Device (D : Type 0) : Type 0 where
  pub device : D
  pub faults : ℕ
