use Rattle.fixed_word.proofs.UpTo.{same_where_fits}
use Rattle.fixed_math.proofs.strict.FixedStrictMath.strict_exp2.Goals as goal

pub returns : goal.returns
returns g c =
    let e = c.exp2_of.ensures in
    let range = c.requires.fits e.0 e.1 in
    let same = same_where_fits g.T.RawWord.SIGNED g.T.Valued.BITS e.0 e.2.other range e.2.alike in
    rw (c.exact_number.ensures e.2.other e.2.stands (rw same range), same) e.1
