-- Pairs of numbers, of which one may be missing.
use Rattle.std.proofs.Common.{◌≡◌, ◌∙◌, ℤ, ap}
use Rattle.std.specs.Prelude.{Option}
use Rattle.fixed_turns.specs.Sines.{both}

pub both_are : {a b c d : Option ℤ} {pair : Option (ℤ × ℤ)} → pair ≡ both a b → a ≡ c → b ≡ d → pair ≡ both c d
both_are {a} {b} {c} {d} {pair} is first second = is ∙ ap (λ u. both u b) first ∙ ap (both c) second
