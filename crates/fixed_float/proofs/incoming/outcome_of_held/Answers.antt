use Rattle.std.proofs.Common.{ℕ, pos, ap, ◌∙◌, sym, w64}
use Rattle.std.proofs.lemmas.Int.{to_z-of_z}
use mir.Val.{SFits, of_z}
use Rattle.fixed_word.specs.Format.{wrap}
use Rattle.fixed_word.proofs.Integers.{of_bits}
use Rattle.fixed_word.proofs.Sides.{side_fits}
use Rattle.fixed_word.proofs.Wraps.{width_pos}
use Rattle.fixed_kernel.proofs.Alikes.{width_at_most}
use Rattle.fixed_float.proofs.incoming.outcome_of_held.Goals as goal

pub returns : goal.returns
returns g c =
    let s = g.T.RawWord.SIGNED in
    let n = g.T.Valued.BITS in
    let W = g.met.T.RawWord.width_law in
    let x = c.args.whole in
    let f : SFits w64 x = record { sfits = c.ranges.whole.sfits } in
    record {
      wrapped = c.residue.ensures ∙ ap (λ (z : ℕ). wrap s n (pos z)) (c.cast_unsigned.ensures ∙ ap (of_z w64) (to_z-of_z w64 x f)) ∙ of_bits w64 s n x f (width_pos n W) (width_at_most n W);
      side = sym (side_fits s n x c.requires.0 c.requires.1);
    }
