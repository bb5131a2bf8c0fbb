use Rattle.std.proofs.Common.{◌≡◌, ◌*◌, ◌^◌, ap, sym, arith}
use Rattle.fixed_word.specs.Format.{with_sign}
use Rattle.fixed_kernel.proofs.Alikes.{alike_same}
use Rattle.fixed_convert.proofs.Folds.{raised_far, raised_large, raised_small}
use Rattle.fixed_convert.proofs.long_products.raised_alike.Goals as goal

pub returns-then-magnitude-eq0 : goal.returns-then-magnitude-eq0
returns-then-magnitude-eq0 c = λ b.
    let z = c.if-magnitude-eq0.true in
    let e : 0 ≡ c.args.magnitude * 2 ^ c.args.by = rw z (omega arith) in
    alike_same (2 ^ 64) (with_sign b (c.args.magnitude * 2 ^ c.args.by)) (with_sign b 0) (ap (with_sign b) e)

pub returns-then-by-ge64 : goal.returns-then-by-ge64
returns-then-by-ge64 c = λ b. let z = c.if-magnitude-eq0.false in raised_far b c.args.magnitude c.args.by (omega arith) c.if-by-ge64.true

pub returns-then-magnitude : goal.returns-then-magnitude
returns-then-magnitude c = λ b.
    let l = c.if-by-ge64.false in
    alike_same (2 ^ 64) (with_sign b (c.args.magnitude * 2 ^ c.args.by)) _ (ap (with_sign b) (sym (raised_small c.args.magnitude c.args.by c.if-magnitude.true (omega arith))))

pub returns-else-magnitude : goal.returns-else-magnitude
returns-else-magnitude c = λ b. let l = c.if-magnitude.false in raised_large b c.args.magnitude c.args.by (omega arith)
