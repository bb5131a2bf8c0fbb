use Rattle.std.proofs.Common.{◌∙◌}
use Rattle.fixed_word.proofs.Wraps.{wrap_same, width_pos}
use Rattle.fixed_machine.proofs.Fits.{in_range}
use Rattle.fixed_machine.specs.Step.{cell_of}
use Rattle.fixed_machine.proofs.rows.word_held.Goals as goal

pub returns : goal.returns
returns g c =
    let s = g.T.RawWord.SIGNED in
    let n = g.T.Valued.BITS in
    c.residue.ensures ∙ wrap_same s n (cell_of c.args.register).bits (width_pos n g.met.T.RawWord.width_law) (in_range s n (cell_of c.args.register).bits c.requires)
