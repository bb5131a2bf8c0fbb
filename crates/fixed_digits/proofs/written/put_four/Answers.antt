use Rattle.std.proofs.Common.{◌≡◌, ◌+◌, ◌/◌, ◌%◌, ◌++◌, ℕ, List, drop, ap, ◌∙◌, arith}
use Rattle.fixed_digits.specs.inside.Digits.{pair_digits}
use Rattle.fixed_digits.proofs.written.put_four.Goals as goal

pub returns : goal.returns
returns c =
    let past : c.args.at + 2 + 2 ≡ c.args.at + 4 = omega arith in
    c.put_pair-2.ensures ∙ ap (λ (ds : List ℕ). pair_digits (c.args.four / 100) ++ ds) (c.put_pair.ensures ∙ ap (λ (k : ℕ). pair_digits (c.args.four % 100) ++ drop k c.args.buffer.now) past)
