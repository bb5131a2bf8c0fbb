use Rattle.std.proofs.Common.{◌*◌, ◌^◌, ap, ◌∙◌, arith}
use Rattle.std.proofs.lemmas.Nat.{shl_whole}
use Rattle.fixed_natural.proofs.scaling.in_places.Goals as goal

pub returns : goal.returns
returns c =
    let same = c.from.ensures in
    shl_whole c.from.result 7 c.args.places 128 (omega (arith, c.requires.places)) (omega (arith, c.requires.whole)) ∙ ap (λ n. n * 2 ^ c.args.places) same
