-- A number above 0, by its sign and its magnitude.
use Rattle.std.proofs.Common.{◌≡◌, ◌<ℤ◌, ℕ, ℤ, Bool, zero, suc, pos, negsuc, true, false, not, unsigned_abs, nat_lt, IsTrue, arith}
use Rattle.std.proofs.lemmas.Bool.{lt-ltb}
use Rattle.std.proofs.lemmas.Int.{ints}

pub unless_below : (x : ℤ) (b : Bool) (m : ℕ) → b ≡ false → (x <ℤ pos 0 → IsTrue b) → m ≡ unsigned_abs x → (IsTrue (nat_lt 0 m) → pos 0 <ℤ x) × (pos 0 <ℤ x → IsTrue (nat_lt 0 m))
unless_below (pos zero) b m not_true never is = rw is (λ yes. cc, λ above. absurd (omega (arith, ints)))
unless_below (pos (suc n)) b m not_true never is = rw is (λ yes. omega (arith, ints), λ above. lt-ltb 0 (suc n) (omega arith))
unless_below (negsuc n) b m not_true never is = let yes : b ≡ true = never (omega (arith, ints)) in cc

pub never_below : (x : ℤ) (b : Bool) → b ≡ true → x <ℤ pos 0 → (IsTrue (not b) → pos 0 <ℤ x) × (pos 0 <ℤ x → IsTrue (not b))
never_below x b is below = rw is (λ yes. cc, λ above. absurd (omega (arith, ints)))
