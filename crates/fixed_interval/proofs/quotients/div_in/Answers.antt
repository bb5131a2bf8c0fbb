use Rattle.std.proofs.Common.{ap, sym, ◌∙◌}
use Rattle.fixed_interval.specs.Ends.{ends_of, fitting, quotient_ends, quotient_of}
use Rattle.fixed_interval.specs.Containment.{HoldsQuotients}
use Rattle.std.specs.Option.{option_map}
use Rattle.fixed_interval.proofs.Fitting.{seen, held, off_zero, quotient_holds, quotient_is}
use Rattle.fixed_interval.proofs.QuotientEnds.{quotient_order}
use Rattle.fixed_interval.proofs.quotients.div_in.Goals as goal

pub returns-clause-ends : goal.returns-clause-ends
returns-clause-ends g c =
    let a = ends_of g.T.Valued.value c.args.a.now in
    let b = ends_of g.T.Valued.value c.args.b.now in
    let f = c.args.frac in
    let off = off_zero b (sym c.holds_zero.ensures ∙ c.if-holds_zero.false) in
    c.between.ensures (quotient_of a b f) (rw c.least_quotient.ensures at c.outcome.ensures) (rw c.greatest_quotient.ensures at c.outcome-2.ensures) (quotient_order a b f off)
    ∙ ap (fitting g.T.RawWord.SIGNED g.T.Valued.BITS) (sym (quotient_is a b f off))

pub returns-clause-holds : goal.returns-clause-holds
returns-clause-holds g c =
    let a = ends_of g.T.Valued.value c.args.a.now in
    let b = ends_of g.T.Valued.value c.args.b.now in
    let f = c.args.frac in
    seen (ends_of g.T.Valued.value) (HoldsQuotients a b f) c.between.result (held (HoldsQuotients a b f) g.T.RawWord.SIGNED g.T.Valued.BITS (quotient_ends a b f) (option_map (ends_of g.T.Valued.value) c.between.result) (returns-clause-ends g c) (λ e. quotient_holds a b e f))
