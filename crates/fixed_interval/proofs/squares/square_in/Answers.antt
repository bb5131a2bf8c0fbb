use Rattle.std.proofs.Common.{◌*ℤ◌, ℤ, ap, ◌∙◌, sym}
use Rattle.fixed_interval.specs.Ends.{ends_of, square_of}
use Rattle.fixed_interval.specs.Containment.{HoldsSquares}
use Rattle.fixed_interval.proofs.Fitting.{seen, held_some}
use Rattle.fixed_interval.proofs.SquareEnds.{abs_square, holds_squares, square_order}
use Rattle.fixed_interval.proofs.squares.square_in.Goals as goal

pub returns-clause-ends : goal.returns-clause-ends
returns-clause-ends g c =
    let a = ends_of g.T.Valued.value c.args.a.now in
    let f = c.args.frac in
    let near = sym (abs_square (g.T.Valued.value c.nearest_to_zero-near.result)) ∙ ap (λ (m : ℤ). m *ℤ m) c.nearest_to_zero-near.ensures.value in
    let far = sym (abs_square (g.T.Valued.value c.farthest_from_zero-far.result)) ∙ ap (λ (m : ℤ). m *ℤ m) c.farthest_from_zero-far.ensures in
    c.between.ensures (square_of a f)
    (rw (c.floored-low.ensures, c.corner.ensures.value, near) at c.outcome_of_whole.ensures)
    (rw (c.ceiled-high.ensures, c.corner-2.ensures.value, far) at c.outcome_of_whole-2.ensures)
    (square_order a f c.nearest_to_zero-near.ensures.order)

pub returns-clause-holds : goal.returns-clause-holds
returns-clause-holds g c =
    let a = ends_of g.T.Valued.value c.args.a.now in
    let f = c.args.frac in
    seen (ends_of g.T.Valued.value) (λ e. HoldsSquares a f e) c.between.result (held_some (λ e. HoldsSquares a f e) g.T.RawWord.SIGNED g.T.Valued.BITS (square_of a f) _ (returns-clause-ends g c) (holds_squares a f))
