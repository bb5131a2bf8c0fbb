use Rattle.std.proofs.Common.{◌≡◌, ◌∙◌, ◌++◌, List, Option, [], ap, sym, subst, arith}
use Rattle.std.specs.List.{All}
use Rattle.fixed_text.specs.declared.names.WordName.{WordName}
use Rattle.fixed_machine.specs.Meaning.{zeros}
use Rattle.fixed_machine.specs.Machine.{Cell}
use Rattle.fixed_machine.specs.Rooms.{IsRoom, Space}
use Rattle.fixed_machine.specs.Step.{IsCell, cells_of}
use Rattle.fixed_machine.proofs.Runs.{zeros_fit}
use Rattle.fixed_machine.proofs.room.Room.declare.Goals as goal

pub invariant_of-self : goal.invariant_of-self
invariant_of-self c =
    let cleared = c.clear-then-not-push_fractions in
    let room = c.self.invariant.1 in
    let word = ap (λ (s : Space). s.word) c.self.view_is ∙ c.clear.ensures.no_word in
    (subst (λ (o : Option WordName). IsRoom o (cells_of cleared.new.self.items)) (sym word) (ap cells_of cleared.ensures.items), omega (arith, room, c.push_fractions.ensures.capacity, cleared.ensures.capacity))

pub invariant_of-self-2 : goal.invariant_of-self-2
invariant_of-self-2 c =
    let h = c.args.header.now in
    let cells = cells_of c.push_fractions.new.registers.items in
    let narrow = c.if-not-push_fractions.false in
    let none : cells_of c.self.inside.registers.items ≡ [] = ap (λ (s : Space). s.registers) c.self.view_is ∙ c.clear.ensures.no_registers in
    let all : All (IsCell h.word) cells = subst (All (IsCell h.word)) (sym (c.push_fractions.ensures.items narrow ∙ ap (λ (cs : List Cell). cs ++ zeros h.fractions) none)) (zeros_fit h.word h.fractions (c.push_fractions.ensures.narrow narrow)) in
    let room = c.self.invariant.1 in
    (subst (λ (w : WordName). All (IsCell w) cells) (sym c.word.ensures) all, omega (arith, room, c.push_fractions.ensures.capacity))
