use Rattle.std.proofs.Common.{ap, sym, ◌∙◌}
use Rattle.fixed_interval.specs.Ends.{ends_of, fitting, root_ends, root_of_ends}
use Rattle.fixed_interval.specs.Containment.{HoldsRoots}
use Rattle.std.specs.Option.{option_map}
use Rattle.fixed_interval.proofs.Fitting.{seen, held, not_below, root_holds, root_is}
use Rattle.fixed_interval.proofs.RootEnds.{root_in_order}
use Rattle.fixed_interval.proofs.roots.sqrt_in.Goals as goal

pub returns-clause-ends : goal.returns-clause-ends
returns-clause-ends g c =
    let a = ends_of g.T.Valued.value c.args.a.now in
    let f = c.args.frac in
    let sign = not_below c.is_below_zero.result (g.T.Valued.value c.lo-low.result) c.is_below_zero.ensures.sign c.if-is_below_zero.false in
    let from_zero = rw c.lo-low.ensures.value at sign in
    c.between.ensures (root_of_ends a f) (rw c.lo-low.ensures.value at c.sqrt_of.ensures) (rw c.hi-high.ensures.value at c.ceiling_sqrt_of.ensures) (root_in_order a.low a.high f from_zero c.lo-low.ensures.order)
    ∙ ap (fitting g.T.RawWord.SIGNED g.T.Valued.BITS) (sym (root_is a f from_zero))

pub returns-clause-holds : goal.returns-clause-holds
returns-clause-holds g c =
    let a = ends_of g.T.Valued.value c.args.a.now in
    let f = c.args.frac in
    seen (ends_of g.T.Valued.value) (HoldsRoots a f) c.between.result (held (HoldsRoots a f) g.T.RawWord.SIGNED g.T.Valued.BITS (root_ends a f) (option_map (ends_of g.T.Valued.value) c.between.result) (returns-clause-ends g c) (λ e. root_holds a e f))
