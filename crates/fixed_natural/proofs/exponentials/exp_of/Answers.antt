use Rattle.std.proofs.Common.{◌≡◌, pos, rules}
use Rattle.fixed_natural.proofs.Moving.{exp_is, exp_is_none, exp_is_one, stands, stands_itself}
use Rattle.fixed_natural.proofs.exponentials.exp_of.Goals as goal

pub returns-then-magnitude-eq0 : goal.returns-then-magnitude-eq0
returns-then-magnitude-eq0 g c =
    let none : c.magnitude.result ≡ 0 = search rules in
    (pos c.one.result, exp_is_one (g.T.Valued.value c.args.a) c.magnitude.result c.args.frac c.one.result c.magnitude.ensures.magnitude none c.one.ensures, stands_itself g.T.Valued.value g.T.RawWord.SIGNED g.T.Valued.BITS (pos c.one.result) c.outcome_of_magnitude.result c.outcome_of_magnitude.ensures)

pub returns-in-Some : goal.returns-in-Some
returns-in-Some g c =
    let n = g.T.Valued.BITS in
    let u = c.power_of.ensures in
    let some : c.magnitude.result ≡ 0 → ⊥ = search rules in
    (pos u.0, exp_is (g.T.Valued.value c.args.a) c.magnitude.result c.args.frac c.in-Some.exponent u.0 c.magnitude.ensures.magnitude some c.in-Some.ensures u.1, stands g.T.Valued.value g.T.RawWord.SIGNED n u.0 c.power_of.result _ g.met.T.RawWord.width_law u.2 c.outcome_of_magnitude-in-Some.ensures)

pub returns-in-None : goal.returns-in-None
returns-in-None g c =
    let some : c.magnitude.result ≡ 0 → ⊥ = search rules in
    (pos 0, exp_is_none (g.T.Valued.value c.args.a) c.magnitude.result c.args.frac c.magnitude.ensures.magnitude some c.in-None.ensures, stands_itself g.T.Valued.value g.T.RawWord.SIGNED g.T.Valued.BITS (pos 0) c.outcome_of_magnitude-in-None.result c.outcome_of_magnitude-in-None.ensures)
