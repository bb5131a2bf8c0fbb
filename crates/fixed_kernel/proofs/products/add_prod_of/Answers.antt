use Rattle.std.proofs.Common.{◌≡◌, ◌+◌, ◌^◌, ◌<◌, ◌-ℤ◌, ℕ, pos, arith}
use Rattle.std.proofs.lemmas.Int.{ints, to_z_pos, to_z-of_z}
use Rattle.std.specs.Int.{w32}
use mir.Val.{SFits, to_z, of_z}
use Rattle.fixed_kernel.proofs.Alikes.{width_at_most}
use Rattle.fixed_kernel.proofs.products.add_prod_of.Goals as goal

places_kept : (p f : ℕ) → p < 2 ^ 31 → f < 2 ^ 31 → to_z w32 (of_z w32 (to_z w32 p -ℤ to_z w32 f)) ≡ pos p -ℤ pos f
places_kept p f small_p small_f =
    let d : SFits w32 (pos p -ℤ pos f) = omega (arith, ints) in
    rw (to_z_pos w32 p small_p, to_z_pos w32 f small_f) (to_z-of_z w32 (pos p -ℤ pos f) d)

pub returns : goal.returns
returns g c =
    let w = width_at_most g.T.Valued.BITS g.met.T.RawWord.width_law in
    let e = places_kept (c.args.a_frac + c.args.b_frac) c.args.c_frac (omega arith) (omega arith) in
    rw e at c.add_prod_at.ensures
