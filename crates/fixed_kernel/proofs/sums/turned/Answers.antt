use Rattle.std.proofs.Common.{◌≡◌, Bool, false, refl, sym, ◌∙◌}
use Rattle.std.specs.Prelude.{not}
use Rattle.std.proofs.lemmas.Bool.{false≢true}
use denote.Enum.Bare.{sameb}
use Rattle.fixed_word.specs.contracts.outcome.Side.{the_type}
use Rattle.fixed_word.specs.declared.outcome.Side.{Side}
use Rattle.fixed_word.specs.declared.outcome.Side.TheVariants.{Fits, Above, Below}
use Rattle.fixed_word.proofs.Wraps.{width_pos}
use Rattle.fixed_kernel.proofs.Turns.{turned_stands}
use Rattle.fixed_kernel.proofs.sums.turned.Goals.{then-not-past, else-not-past+then-below, else-not-past+else-below}
use Rattle.fixed_kernel.proofs.sums.turned.Goals as goal

fits_where : (side : Side) (u : Bool) → u ≡ not (sameb the_type side Fits) → u ≡ false → side ≡ Fits
fits_where Fits u e f = refl
fits_where Above u e f = absurd (false≢true (sym f ∙ e))
fits_where Below u e f = absurd (false≢true (sym f ∙ e))

pub returns : goal.returns
returns g c = λ x y f t out. turned_stands g.T.Valued.value g.T.RawWord.SIGNED g.T.Valued.BITS x y c.ne.result c.args.moved c.args.below c.args.outcome c.if-not-past.side (width_pos g.T.Valued.BITS g.met.T.RawWord.width_law) f t (λ fits. rw fits at c.ne.ensures) (fits_where c.args.outcome.side c.ne.result c.ne.ensures) out
    (elim c.if-not-past.branch [
      | then-not-past w ↦ rw w.if-not-past.true w.side-is
      | else-not-past+then-below w ↦ rw (w.if-not-past.false, w.if-below.true) w.side-is
      | else-not-past+else-below w ↦ rw (w.if-not-past.false, w.if-below.false) w.side-is
    ])
