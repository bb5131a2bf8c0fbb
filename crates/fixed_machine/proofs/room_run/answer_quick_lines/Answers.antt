use Rattle.std.proofs.Common.{sym, subst, refl, drop, arith}
use Rattle.std.proofs.lemmas.List.{take_rest}
use Rattle.fixed_machine.specs.Rooms.{Space}
use Rattle.fixed_machine.specs.inside.Moves.{HasMoved, HaveMoved}
use Rattle.fixed_machine.specs.inside.QuickSteps.{AreEqual}
use Rattle.fixed_machine.proofs.Moves.{kept_twice, moved_on}
use Rattle.fixed_machine.proofs.room_run.answer_quick_lines.Goals as goal

pub answer_quick_line-requires-clause-signed : goal.answer_quick_line-requires-clause-signed
answer_quick_line-requires-clause-signed g c = c.requires.signed

pub answer_quick_line-requires-clause-bits : goal.answer_quick_line-requires-clause-bits
answer_quick_line-requires-clause-bits g c = c.requires.bits

pub answer_quick_line-requires-clause-few : goal.answer_quick_line-requires-clause-few
answer_quick_line-requires-clause-few g c = c.loop-at.invariant.few

pub answer_quick_line-requires-clause-count : goal.answer_quick_line-requires-clause-count
answer_quick_line-requires-clause-count g c = c.loop-at.invariant.count

pub answer_quick_line-requires-clause-word : goal.answer_quick_line-requires-clause-word
answer_quick_line-requires-clause-word g c = c.loop-at.invariant.moved.its_word

pub answer_quick_line-requires-clause-one_fraction : goal.answer_quick_line-requires-clause-one_fraction
answer_quick_line-requires-clause-one_fraction g c = λ one. subst AreEqual (sym c.loop-at.invariant.moved.same_fractions) (c.requires.one_fraction one)

pub answer_quick_line-requires-clause-space : goal.answer_quick_line-requires-clause-space
answer_quick_line-requires-clause-space g c = simp take_rest c.loop-at.invariant.moved.space

pub loop-at-preserved : goal.loop-at-preserved
loop-at-preserved g c =
    let lines = c.args.lines.now in
    let at = c.loop-at.at in
    let number = c.loop-at.number in
    let moved : HasMoved c.args.word number (drop at lines) c.in-Some.end c.loop-at.room c.answer_quick_line.new.room = simp take_rest at c.in-Some.ensures.some in
    record {
      moved = moved_on c.args.word lines c.args.from c.args.first at number c.in-Some.end c.args.room.now c.loop-at.room c.answer_quick_line.new.room c.loop-at.invariant.moved moved;
      count = omega (arith, c.in-Some.ensures.count, c.loop-at.invariant.count);
      few = c.loop-at.invariant.few;
      kept = kept_twice _ _ _ c.loop-at.invariant.kept c.in-Some.ensures.kept;
    }

pub returns-in-None-clause-moved : goal.returns-in-None-clause-moved
returns-in-None-clause-moved g c = subst (λ (room : Space). HaveMoved c.args.word c.args.lines.now c.args.from c.args.first c.loop-at.at c.loop-at.number c.args.room.now room) (sym (c.in-None.ensures.none refl)) c.loop-at.invariant.moved

pub returns-in-None-clause-kept : goal.returns-in-None-clause-kept
returns-in-None-clause-kept g c = kept_twice _ _ _ c.loop-at.invariant.kept c.in-None.ensures.kept

pub returns-clause-moved : goal.returns-clause-moved
returns-clause-moved g c = c.loop-at.invariant.moved

pub returns-clause-kept : goal.returns-clause-kept
returns-clause-kept g c = c.loop-at.invariant.kept
