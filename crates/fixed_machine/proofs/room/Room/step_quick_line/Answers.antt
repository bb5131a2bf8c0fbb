use Rattle.std.proofs.Common.{◌≡◌, ◌∙◌, List, Option, Some, Ok, IfSome, length, ap, sym, subst}
use Rattle.std.specs.List.{All}
use Rattle.std.proofs.lemmas.List.{length-map}
use Rattle.fixed_text.specs.declared.names.WordName.{WordName}
use Rattle.fixed_machine.specs.declared.register.Register.{Register}
use Rattle.fixed_machine.specs.inside.Quick.{script_line_of_quick}
use Rattle.fixed_machine.specs.inside.QuickSteps.{AreEqual, fractions_in}
use Rattle.fixed_machine.specs.inside.Stepping.{whole_answer}
use Rattle.fixed_machine.specs.Machine.{Cell}
use Rattle.fixed_machine.specs.Rooms.{IsRoom, Space}
use Rattle.fixed_machine.specs.Step.{IsCell, IsStepOfLine, cell_of, cells_of, state_in}
use Rattle.fixed_machine.proofs.Lent.{in_lent, put_back}
use Rattle.fixed_machine.proofs.room.Room.step_quick_line.Goals as goal

pub quick_step-requires-clause-signed : goal.quick_step-requires-clause-signed
quick_step-requires-clause-signed g c = c.requires.signed

pub quick_step-requires-clause-bits : goal.quick_step-requires-clause-bits
quick_step-requires-clause-bits g c = c.requires.bits

pub quick_step-requires-clause-cells : goal.quick_step-requires-clause-cells
quick_step-requires-clause-cells g c =
    let word = ap (λ (s : Space). s.word) c.self.view_is ∙ c.requires.word in
    subst (λ (rs : List Register). All (IsCell c.args.word) (cells_of rs)) (sym c.deref_mut.ensures.value) (subst (λ (o : Option WordName). IsRoom o (cells_of c.self.inside.registers.items)) word c.self.invariant.0)

pub quick_step-requires-clause-one_fraction : goal.quick_step-requires-clause-one_fraction
quick_step-requires-clause-one_fraction g c = λ one.
    let lent : cells_of c.deref_mut.result.now ≡ c.args.self.now.registers = ap cells_of c.deref_mut.ensures.value ∙ ap (λ (s : Space). s.registers) c.self.view_is in
    subst (λ (cells : List Cell). AreEqual (fractions_in cells)) (sym lent) (c.requires.one_fraction one)

pub quick_step-requires-clause-dest : goal.quick_step-requires-clause-dest
quick_step-requires-clause-dest g c = in_lent c.args.line.dest _ _ (ap cells_of c.deref_mut.ensures.value ∙ ap (λ (s : Space). s.registers) c.self.view_is) c.requires.dest

pub quick_step-requires-clause-a : goal.quick_step-requires-clause-a
quick_step-requires-clause-a g c = in_lent c.args.line.a _ _ (ap cells_of c.deref_mut.ensures.value ∙ ap (λ (s : Space). s.registers) c.self.view_is) c.requires.a

pub quick_step-requires-clause-b : goal.quick_step-requires-clause-b
quick_step-requires-clause-b g c = in_lent c.args.line.b _ _ (ap cells_of c.deref_mut.ensures.value ∙ ap (λ (s : Space). s.registers) c.self.view_is) c.requires.b

pub quick_step-requires-clause-c : goal.quick_step-requires-clause-c
quick_step-requires-clause-c g c = in_lent c.args.line.c _ _ (ap cells_of c.deref_mut.ensures.value ∙ ap (λ (s : Space). s.registers) c.self.view_is) c.requires.c

pub invariant_of-self : goal.invariant_of-self
invariant_of-self g c =
    let word = ap (λ (s : Space). s.word) c.self.view_is ∙ c.requires.word in
    let back = put_back c.self.inside.registers.len c.quick_step.new.registers c.self.inside.registers.items (c.quick_step.auto.registers ∙ c.deref_mut.ensures.len) in
    (subst (λ (rs : List Register). IsRoom c.self.inside.word (cells_of rs)) (sym back) (subst (λ (o : Option WordName). IsRoom o (cells_of c.quick_step.new.registers)) (sym word) c.quick_step.ensures.kept), c.self.invariant.1)

pub returns-clause-some : goal.returns-clause-some
returns-clause-some g c =
    let before : cells_of c.deref_mut.result.now ≡ c.args.self.now.registers = ap cells_of c.deref_mut.ensures.value ∙ ap (λ (s : Space). s.registers) c.self.view_is in
    let back = put_back c.self.inside.registers.len c.quick_step.new.registers c.self.inside.registers.items (c.quick_step.auto.registers ∙ c.deref_mut.ensures.len) in
    let tells = λ (old new : List Cell). IfSome c.quick_step.result (λ answer. IsStepOfLine (state_in c.args.word old) (Some (script_line_of_quick c.args.line)) c.args.number (Ok (whole_answer answer)) new) in
    subst (tells c.args.self.now.registers) (sym (ap cells_of back)) (subst (λ (old : List Cell). tells old (cells_of c.quick_step.new.registers)) before c.quick_step.ensures.some)

pub returns-clause-none : goal.returns-clause-none
returns-clause-none g c = λ none.
    let back = put_back c.self.inside.registers.len c.quick_step.new.registers c.self.inside.registers.items (c.quick_step.auto.registers ∙ c.deref_mut.ensures.len) in
    ap cells_of back ∙ c.quick_step.ensures.none none ∙ ap cells_of c.deref_mut.ensures.value ∙ ap (λ (s : Space). s.registers) c.self.view_is

pub returns-clause-count : goal.returns-clause-count
returns-clause-count g c =
    let back = put_back c.self.inside.registers.len c.quick_step.new.registers c.self.inside.registers.items (c.quick_step.auto.registers ∙ c.deref_mut.ensures.len) in
    ap (λ (rs : List Register). length (cells_of rs)) back ∙ length-map c.quick_step.new.registers cell_of ∙ c.quick_step.auto.registers ∙ ap length c.deref_mut.ensures.value
    ∙ sym (length-map c.self.inside.registers.items cell_of) ∙ ap (λ (s : Space). length s.registers) c.self.view_is

pub returns-clause-kept : goal.returns-clause-kept
returns-clause-kept g c =
    record {
      same_word = ap (λ (s : Space). s.word) c.self.view_is;
      same_answers = ap (λ (s : Space). s.answers) c.self.view_is;
      same_register_room = ap (λ (s : Space). s.register_room) c.self.view_is;
      same_answer_room = ap (λ (s : Space). s.answer_room) c.self.view_is;
    }
