use Rattle.std.proofs.Common.{ℤ, ap, ◌∙◌, ◌^◌}
use Rattle.fixed_word.specs.Quotient.{floor_quotient}
use Rattle.fixed_convert.proofs.Cuts.{read_back}
use Rattle.fixed_convert.proofs.Moves.{floor_at_most}
use Rattle.fixed_convert.proofs.Rooms.{small}
use Rattle.fixed_convert.proofs.moved.lowered.Goals as goal

pub returns : goal.returns
returns g c =
    let x = g.S.Valued.value c.args.a in
    let s = small g.S.RawWord.SIGNED g.S.Valued.BITS x g.met.S.RawWord.width_law c.to_wide.ensures.in_range in
    let z = read_back c.to_wide.result x (record { sfits = c.to_wide.type_inv }) c.to_wide.ensures.value in
    let e = c.floored.ensures ∙ ap (λ (y : ℤ). floor_quotient y (2 ^ c.at_most.result)) z ∙ floor_at_most x c.args.by c.at_most.result s c.at_most.ensures.same c.at_most.ensures.most in
    rw (read_back c.floored.result _ (record { sfits = c.floored.type_inv }) e) at c.fitted_by_bits.ensures
