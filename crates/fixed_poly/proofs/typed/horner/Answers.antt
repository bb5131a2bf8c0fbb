use Rattle.std.proofs.Common.{◌≡◌, pos, arith}
use Rattle.fixed_poly.proofs.Steps.{begins, steps, stops, ends}
use Rattle.fixed_poly.proofs.typed.horner.Goals as goal

pub loop-i-init : goal.loop-i-init
loop-i-init g c =
    let number = g.T.Valued.value in
    let zero : number c.ZERO-value.result.bits ≡ pos 0 = rw c.ZERO-value.ensures g.met.T.RawWord.zero_law in
    rw zero (begins (λ c. number c.bits) g.T.RawWord.SIGNED g.T.Valued.BITS g.row.F (number c.args.x.bits) c.args.coefs.now)

pub loop-i-preserved : goal.loop-i-preserved
loop-i-preserved g c =
    let number = g.T.Valued.value in
    steps (λ c. number c.bits) g.T.RawWord.SIGNED g.T.Valued.BITS g.row.F (number c.args.x.bits) c.args.coefs.now (number c.loop-i.value.bits) c.index-coefs-i.result c.loop-i.i (omega arith) (omega arith) c.loop-i.invariant c.index-coefs-i.is (number c.in-Some.next.bits) c.in-Some.ensures

pub returns-in-None : goal.returns-in-None
returns-in-None g c =
    let number = g.T.Valued.value in
    stops (λ c. number c.bits) g.T.RawWord.SIGNED g.T.Valued.BITS g.row.F (number c.args.x.bits) c.args.coefs.now (number c.loop-i.value.bits) c.index-coefs-i.result c.loop-i.i (omega arith) (omega arith) c.loop-i.invariant c.index-coefs-i.is c.in-None.ensures

pub returns : goal.returns
returns g c =
    let number = g.T.Valued.value in
    let done : c.loop-i.i ≡ 0 = omega arith in
    ends (λ c. number c.bits) g.T.RawWord.SIGNED g.T.Valued.BITS g.row.F (number c.args.x.bits) c.args.coefs.now (number c.loop-i.value.bits) (rw done at c.loop-i.invariant)
