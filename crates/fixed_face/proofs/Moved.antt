-- A product that moves down.
use Rattle.std.proofs.Common.{◌≡◌, ◌+◌, ◌-◌, ◌-ℤ◌, ◌≤◌, ℕ, ℤ, pos, ap, arith}
use Rattle.std.proofs.lemmas.Int.{ints}
use Rattle.fixed_kernel.specs.Rows.{exact_add_prod, exact_add_prod_at, exact_mul_add}

-- it is that of a sum of products in one fraction
pub moved_down : (c a b : ℤ) (f g h : ℕ) → f ≤ (g + h) → exact_mul_add a b c ((g + h) - f) ≡ exact_add_prod c a b f g h
moved_down c a b f g h l =
    let places : pos ((g + h) - f) ≡ (pos (g + h) -ℤ pos f) = omega (arith, ints) in
    ap (exact_add_prod_at c a b) places
