use Rattle.std.proofs.Common.{ℤ, ap, ◌∙◌, ◌^◌, pos}
use Rattle.fixed_kernel.specs.Rounded.{rounded}
use Rattle.fixed_convert.proofs.Cuts.{read_back}
use Rattle.fixed_convert.proofs.Rounds.{rounded_at_most}
use Rattle.fixed_convert.proofs.Rooms.{small}
use Rattle.fixed_convert.proofs.moved.lowered_clamped.Goals as goal

pub rounded_at-requires-clause-small : goal.rounded_at-requires-clause-small
rounded_at-requires-clause-small g c =
    let x = g.S.Valued.value c.args.a in
    let s = small g.S.RawWord.SIGNED g.S.Valued.BITS x g.met.S.RawWord.width_law c.to_wide.ensures.in_range in
    rw (read_back c.to_wide.result x (record { sfits = c.to_wide.type_inv }) c.to_wide.ensures.value) s

pub returns : goal.returns
returns g c =
    let x = g.S.Valued.value c.args.a in
    let s = small g.S.RawWord.SIGNED g.S.Valued.BITS x g.met.S.RawWord.width_law c.to_wide.ensures.in_range in
    let z = read_back c.to_wide.result x (record { sfits = c.to_wide.type_inv }) c.to_wide.ensures.value in
    let e = c.rounded_at.ensures ∙ ap (λ (y : ℤ). rounded y (pos (2 ^ c.at_most.result)) c.args.rounding) z ∙ rounded_at_most x c.args.by c.at_most.result c.args.rounding s c.at_most.ensures.same c.at_most.ensures.most in
    rw (read_back c.rounded_at.result _ (record { sfits = c.rounded_at.type_inv }) e) at c.clamped.ensures
