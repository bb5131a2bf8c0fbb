use Rattle.std.proofs.Common.{◌∙◌, List, ap, sym, subst}
use Rattle.std.specs.Option.{option_copied}
use Rattle.fixed_machine.specs.Machine.{Cell}
use Rattle.fixed_machine.specs.Rooms.{Space}
use Rattle.fixed_machine.specs.Step.{cells_of}
use Rattle.fixed_machine.specs.inside.QuickSteps.{AreEqual, fractions_in}
use Rattle.fixed_machine.proofs.Fractions.{equal_of_none, equal_where}
use Rattle.fixed_machine.proofs.room.Room.has_one_fraction.Goals as goal

pub returns-in-Some : goal.returns-in-Some
returns-in-Some c = λ all.
    let same = equal_where c.deref-in-Some.result.now c.in-Some.first.now.fraction (sym c.have_fraction.ensures ∙ all) in
    subst (λ (cells : List Cell). AreEqual (fractions_in cells)) (ap cells_of c.deref-in-Some.ensures.value ∙ ap (λ (s : Space). s.registers) c.self.view_is) same

pub returns-in-None : goal.returns-in-None
returns-in-None c = λ all.
    let none = equal_of_none c.deref.result.now (sym c.first.ensures.value ∙ ap option_copied c.in-None.is) in
    subst (λ (cells : List Cell). AreEqual (fractions_in cells)) (ap cells_of c.deref.ensures.value ∙ ap (λ (s : Space). s.registers) c.self.view_is) none
