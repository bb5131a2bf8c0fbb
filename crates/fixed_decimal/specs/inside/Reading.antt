-- What the steps of the reader return.
use Rattle.std.specs.Prelude.{◌≡◌, ◌<◌, ◌≤◌, ◌+◌, ◌%◌, ◌^◌, ◌==◌, ℕ, ℤ, Bool, true, nat_lt, List, drop, slice_index, Option, Some, None, Result, Ok, Err, if◌then◌else◌}
use Rattle.std.specs.Char.{is_ascii_digit}
use Rattle.std.specs.List.{list_all, position_or_len, prefix_len}
use Rattle.fixed_word.specs.Format.{fits, with_sign}
use Rattle.fixed_kernel.specs.inside.Alike.{Alike}
use Rattle.fixed_decimal.specs.declared.error.DecimalError.{DecimalError}
use Rattle.std.specs.Str.Parse.{digits_value}
use Rattle.fixed_decimal.specs.Decimal.{digits_in, fault_of, is_point, lead, places_in}

-- n if it is below 2 ^ 64, and otherwise a number of at least 2 ^ 64 with the same lowest 64 bits
abbrev pub held : ℕ → ℕ
held n = if nat_lt n (2 ^ 64) then n else 2 ^ 64 + n % 2 ^ 64

-- where the digits after a point at `at` end, or `at` if no point is there
abbrev pub part_end : List ℕ → ℕ → ℕ
part_end bytes at = if slice_index bytes at == 46 then at + 1 + prefix_len is_ascii_digit (drop (at + 1) bytes) else at

-- digits alone, with at most one point, which is at `at`, or they end there
pub record IsPointAt (bytes : List ℕ) (at : ℕ) : Type 0 where
  pub place : position_or_len is_point bytes ≡ at
  pub digits : list_all is_ascii_digit (digits_in bytes) ≡ true
  pub free : (place : ℕ) → fault_of place (digits_in bytes) ≡ None

-- the same, or why not, for bytes that `before` others precede
abbrev pub IsPoint : ℕ → List ℕ → Result ℕ DecimalError → Type 0
IsPoint before bytes (Ok at) = IsPointAt bytes at
IsPoint before bytes (Err e) = fault_of (before + lead bytes) (digits_in bytes) ≡ Some e

-- the number that all digits write, and how many of them follow the point
pub record IsShort (bytes : List ℕ) (value places : ℕ) : Type 0 where
  pub free : (place : ℕ) → fault_of place (digits_in bytes) ≡ None
  pub number : value ≡ digits_value 10 (digits_in bytes)
  pub behind : places ≡ places_in bytes
  pub small : value < 2 ^ 60
  pub few : places ≤ 18

-- a number, if it fits
abbrev pub within : Bool → ℕ → ℤ → Option ℤ
within signed n x = if fits signed n x then Some x else None

-- the row's number, or another that each word of at most 64 bits treats alike; or the row's error
abbrev pub IsReadAs : Result ℤ DecimalError → Result (Bool × ℕ) DecimalError → Type 0
IsReadAs (Ok x) (Ok r) = Alike (2 ^ 64) x (with_sign r.0 r.1)
IsReadAs (Err e) (Err fault) = fault ≡ e
IsReadAs (Ok x) (Err fault) = ⊥
IsReadAs (Err e) (Ok r) = ⊥
