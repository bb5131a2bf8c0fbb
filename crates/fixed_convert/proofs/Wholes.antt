-- What conversions and whole numbers are.
use Rattle.std.proofs.Common.{◌≡◌, ◌+◌, ◌-◌, ◌*◌, ◌/◌, ◌^◌, ◌<◌, ◌≤◌, ◌≤ℤ◌, ◌<ℤ◌, ◌+ℤ◌, ◌-ℤ◌, ◌*ℤ◌, ℕ, ℤ, suc, pos, negsuc, neg_ℤ, nat_abs, ap, ◌∙◌, arith}
use Rattle.std.proofs.lemmas.Int.{ints}
use Rattle.std.proofs.lemmas.Nat.{pow_pos}
use Rattle.std.proofs.Math.Nat.{div-mul-le_self, lt-div-mul-add}
use Rattle.fixed_word.specs.declared.rounding.Rounding.{Rounding}
use Rattle.fixed_word.proofs.Wraps.{neg-times}
use Rattle.fixed_convert.specs.Convert.{rounded_convert}
use Rattle.fixed_convert.specs.WholeNumber.{exact_ceil, exact_floor, nearest_or_further}
use Rattle.fixed_convert.proofs.Moves.{floor_near}
use Rattle.fixed_convert.proofs.Nearness.{double_out}
use Rattle.fixed_convert.proofs.Rounds.{rounded_down, rounded_exact, rounded_up}

pub back : (a : ℤ) (f g : ℕ) (r s : Rounding) → f ≤ g → rounded_convert (rounded_convert a f g r) g f s ≡ a
back a f g r s l =
    ap (λ (x : ℤ). rounded_convert x g f s) (rounded_up a f g r l)
    ∙ rounded_down (a *ℤ pos (2 ^ (g - f))) g f s l
    ∙ rounded_exact a (2 ^ (g - f)) s (pow_pos (g - f))

pub floor_between : (a : ℤ) (f : ℕ) → (exact_floor a f ≤ℤ a) × (a <ℤ (exact_floor a f +ℤ pos (2 ^ f)))
floor_between a f = floor_near a (2 ^ f) (pow_pos f)

pub ceil_between : (a : ℤ) (f : ℕ) → (a ≤ℤ exact_ceil a f) × (exact_ceil a f <ℤ (a +ℤ pos (2 ^ f)))
ceil_between a f =
    let n = floor_near (neg_ℤ a) (2 ^ f) (pow_pos f) in
    let l = n.0 in
    let u = n.1 in
    (omega (arith, ints), omega (arith, ints))

-- of magnitudes, by twice the multiple m
between : (a d : ℕ) → 0 < d → (2 * ((2 * a + d) / (2 * d) * d) ≤ 2 * a + d) × (2 * a < 2 * ((2 * a + d) / (2 * d) * d) + d)
between a d h =
    let q = (2 * a + d) / (2 * d) in
    let l = div-mul-le_self (2 * a + d) (2 * d) in
    let u = lt-div-mul-add {a = 2 * a + d} {b = 2 * d} (omega arith) in
    let e = double_out q d in
    (omega arith, omega arith)

pub near : (a : ℤ) (d : ℕ) → 0 < d → 2 * nat_abs (a -ℤ nearest_or_further a d *ℤ pos d) ≤ d
near (pos a) d h =
    let b = between a d h in
    let l = b.0 in
    let u = b.1 in
    omega (arith, ints)
near (negsuc a) d h =
    let b = between (suc a) d h in
    let l = b.0 in
    let u = b.1 in
    let t = neg-times ((2 * suc a + d) / (2 * d)) d in
    omega (arith, ints)

pub further : (a : ℤ) (d : ℕ) → 0 < d → 2 * nat_abs (a -ℤ nearest_or_further a d *ℤ pos d) ≡ d → nat_abs a < nat_abs (nearest_or_further a d *ℤ pos d)
further (pos a) d h e =
    let b = between a d h in
    let l = b.0 in
    let u = b.1 in
    omega (arith, ints)
further (negsuc a) d h e =
    let b = between (suc a) d h in
    let l = b.0 in
    let u = b.1 in
    let t = neg-times ((2 * suc a + d) / (2 * d)) d in
    omega (arith, ints)
