use Rattle.std.proofs.Common.{◌+◌, ◌-◌, ◌*◌, ◌^◌, ap, ◌∙◌, arith}
use Rattle.std.proofs.lemmas.Nat.{shl_whole}
use Rattle.fixed_natural.proofs.exponentials.moved.Goals as goal

pub returns : goal.returns
returns c =
    let s = c.args.places + 1 - c.args.frac in
    let same = c.from.ensures in
    shl_whole c.from.result 64 s 128 (omega (arith, c.requires.places)) (omega arith) ∙ ap (λ n. n * 2 ^ s) same
