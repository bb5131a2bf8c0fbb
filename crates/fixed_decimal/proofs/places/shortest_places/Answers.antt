use Rattle.std.proofs.Common.{◌≡◌, ◌≤◌, ◌^◌, ℕ, Bool, true, false, IsTrue, arith}
use Rattle.std.proofs.Math.Nat.{one-le-pow}
use Rattle.fixed_decimal.proofs.Backs.{close_enough}
use Rattle.fixed_word.specs.Format.{IsWidth}
use Rattle.fixed_decimal.proofs.Firsts.{shortest_is}
use Rattle.fixed_decimal.proofs.Trips.{least_close}
use Rattle.fixed_decimal.proofs.places.shortest_places.Goals as goal

not_true : (b : Bool) → b ≡ false → IsTrue b → ⊥
not_true true e t = cc
not_true false e t = cc

within : (n f : ℕ) → IsWidth n → f ≤ n → f ≤ 64
within n f w le = grind (arith, w, le)

pub loop-places-init : goal.loop-places-init
loop-places-init g c = record {
  bound = c.enough_places-places.ensures.bound;
  close = close_enough c.magnitude-magnitude.result _ (2 ^ c.args.frac) (one-le-pow c.args.frac 2 (omega arith)) c.enough_places-places.ensures.enough;
}

pub returns-else-reads_back-clause-places : goal.returns-else-reads_back-clause-places
returns-else-reads_back-clause-places g c =
    least_close (g.T.Valued.value c.args.number) c.magnitude-magnitude.result c.args.frac c.loop-places.places c.magnitude-magnitude.ensures.magnitude c.loop-places.invariant.close
    (λ some close. not_true c.reads_back.result c.if-reads_back.false (c.reads_back.ensures.1 close))

pub returns-after-loop-places-clause-places : goal.returns-after-loop-places-clause-places
returns-after-loop-places-clause-places g c =
    least_close (g.T.Valued.value c.args.number) c.magnitude-magnitude.result c.args.frac c.loop-places.places c.magnitude-magnitude.ensures.magnitude c.loop-places.invariant.close
    (λ some close. absurd (omega (arith, some, c.loop-places-test.false)))

pub returns-else-reads_back-clause-shortest : goal.returns-else-reads_back-clause-shortest
returns-else-reads_back-clause-shortest g c =
    shortest_is (g.T.Valued.value c.args.number) c.args.frac c.loop-places.places (within g.T.Valued.BITS c.args.frac g.met.T.RawWord.width_law c.requires) (returns-else-reads_back-clause-places g c)

pub returns-after-loop-places-clause-shortest : goal.returns-after-loop-places-clause-shortest
returns-after-loop-places-clause-shortest g c =
    shortest_is (g.T.Valued.value c.args.number) c.args.frac c.loop-places.places (within g.T.Valued.BITS c.args.frac g.met.T.RawWord.width_law c.requires) (returns-after-loop-places-clause-places g c)
