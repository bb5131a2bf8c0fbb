use Rattle.std.proofs.Common.{◌≡◌, ◌+◌, ◌%◌, set, arith, length-set}
use Rattle.std.proofs.lemmas.List.{set_comm, drop-set}
use Rattle.fixed_digits.proofs.Pairs.{pair_at}
use Rattle.fixed_digits.proofs.written.put_pair.Goals as goal

pub returns : goal.returns
returns c =
    let p = pair_at c.args.pair c.requires.pair in
    let at = c.args.at in
    let buffer = c.args.buffer.now in
    let next : at + 1 + 1 ≡ at + 2 = omega arith in
    rw (p.0, p.1, set_comm buffer at (at + 1) _ _ (λ x. omega arith), drop-set (set buffer (at + 1) (48 + c.args.pair % 10)) at _ (omega (arith, length-set buffer (at + 1) (48 + c.args.pair % 10))), drop-set buffer (at + 1) _ (omega arith), next)
