use Rattle.std.proofs.Common.{◌^◌, pos, negsuc, refl, ◌∙◌}
use Rattle.std.proofs.lemmas.Nat.{pow_pos}
use Rattle.std.specs.Prelude.{int_lt, if◌then◌else◌}
use Rattle.fixed_convert.specs.WholeNumber.{nearest_or_further}
use Rattle.fixed_convert.proofs.Cuts.{read_back}
use Rattle.fixed_convert.proofs.Nearness.{further_half}
use Rattle.fixed_convert.proofs.quotients.nearest_at.Goals as goal

pub returns : goal.returns
returns c =
    let x = c.args.number in
    let d = 2 ^ c.args.by in
    let n = read_back x x c.ranges.number refl in
    let s = read_back c.sign_of.result (if int_lt x (pos 0) then negsuc 0 else pos 0) (record { sfits = c.sign_of.type_inv }) (rw n at c.sign_of.ensures) in
    read_back c.half_added.result (nearest_or_further x d) (record { sfits = c.half_added.type_inv }) ((rw (n, s) at c.half_added.ensures) ∙ further_half x d (pow_pos c.args.by))
