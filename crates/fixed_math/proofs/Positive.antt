-- What a checked call answers of a row that is undefined at 0 and below.
use Rattle.std.proofs.Common.{◌≡◌, ◌<ℤ◌, ℕ, ℤ, zero, suc, pos, negsuc, Bool, Option, Some, None, refl, arith}
use Rattle.std.proofs.lemmas.Int.{ints}
use Rattle.fixed_word.specs.Policies.{checked}
use Rattle.fixed_elementary.specs.ElementaryRows.{by_positive}

pub some_above : (s : Bool) (n : ℕ) (a x : ℤ) (kept : Option ℤ) → pos 0 <ℤ a → kept ≡ checked s n (Some x) → kept ≡ checked s n (by_positive a x)
some_above s n (pos zero) x kept above e = absurd (omega (arith, ints))
some_above s n (pos (suc a)) x kept above e = e
some_above s n (negsuc a) x kept above e = absurd (omega (arith, ints))

pub none_below : (s : Bool) (n : ℕ) (a x : ℤ) → (pos 0 <ℤ a → ⊥) → None ≡ checked s n (by_positive a x)
none_below s n (pos zero) x never = refl
none_below s n (pos (suc a)) x never = absurd (never (omega (arith, ints)))
none_below s n (negsuc a) x never = refl
