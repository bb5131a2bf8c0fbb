use Rattle.std.proofs.Common.{◌^◌, subst}
use Rattle.fixed_root.specs.inside.Parts.{IsRootOf}
use Rattle.fixed_elementary.proofs.Rows.{recip_root}
use Rattle.fixed_elementary.proofs.reciprocals.recip_root.Goals as goal

pub returns-then-exponent-lt128 : goal.returns-then-exponent-lt128
returns-then-exponent-lt128 c =
    let q = c.root_of_whole.result in
    let h = subst (λ n. IsRootOf n q) c.power_over.ensures c.root_of_whole.ensures in
    recip_root c.args.a (2 ^ c.args.exponent) q c.requires.some h.0 h.1
