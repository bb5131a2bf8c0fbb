use Rattle.std.proofs.Common.{rules, ap, sym, ◌∙◌}
use Rattle.std.specs.Option.{option_map}
use Rattle.fixed_face.proofs.NumbersLeft.{none_left, number_left, same_left}
use Rattle.fixed_face.proofs.elementary.leave.Goals as goal

pub returns-in-Some-clause-exact : goal.returns-in-Some-clause-exact
returns-in-Some-clause-exact g c x stands =
    let value = g.T.Valued.value in
    number_left value _ c.in-Some.found _ (ap (option_map value) (sym c.in-Some.is) ∙ c.checked_of.ensures x stands)

pub returns-in-Some-clause-up_to : goal.returns-in-Some-clause-up_to
returns-in-Some-clause-up_to g c x up =
    let value = g.T.Valued.value in
    number_left value _ c.in-Some.found _ (same_left g.T.RawWord.SIGNED g.T.Valued.BITS x up.other _ (ap (option_map value) (sym c.in-Some.is) ∙ c.checked_of.ensures up.other up.stands) up.alike)

pub returns-in-None-clause-exact : goal.returns-in-None-clause-exact
returns-in-None-clause-exact g c x stands =
    let value = g.T.Valued.value in
    none_left value _ _ _ (ap (option_map value) (sym c.in-None.is) ∙ c.checked_of.ensures x stands) (search rules)

pub returns-in-None-clause-up_to : goal.returns-in-None-clause-up_to
returns-in-None-clause-up_to g c x up =
    let value = g.T.Valued.value in
    none_left value _ _ _ (same_left g.T.RawWord.SIGNED g.T.Valued.BITS x up.other _ (ap (option_map value) (sym c.in-None.is) ∙ c.checked_of.ensures up.other up.stands) up.alike) (search rules)
