use Rattle.std.proofs.Common.{◌≡◌, ◌∙◌, ap, sym, arith, drop, map, length, None, true, false}
use Rattle.std.proofs.lemmas.List.{length-map, take_rest}
use Rattle.fixed_digits.specs.Numerals.{cap}
use Rattle.fixed_script.specs.Headers.{CappedHeader}
use Rattle.fixed_word.specs.Pieces.{pieces}
use Rattle.fixed_text.specs.inside.Ends.{stopped}
use Rattle.fixed_machine.specs.Meaning.{fractions_of, has_wide, zeros}
use Rattle.fixed_machine.specs.Rooms.{spaces_of}
use Rattle.fixed_machine.proofs.Short.{header_room}
use Rattle.fixed_machine.proofs.Runs.{run_of_wide, run_of_lines, told_none, told_started, caps_wide, caps_narrow}
use Rattle.fixed_machine.proofs.room_run.run_from.Goals as goal

pub declare-requires : goal.declare-requires
declare-requires c =
    let opened = c.requires.opened in
    let some = header_room _ opened.header opened.is in
    let fractions = ap (λ (r : CappedHeader). length r.fractions) opened.capped in
    omega (arith, some, fractions, length-map (fractions_of opened.header) cap, ap spaces_of opened.cut, c.requires.registers)

pub returns-in-Ok-clause-tells : goal.returns-in-Ok-clause-tells
returns-in-Ok-clause-tells c =
    let opened = c.requires.opened in
    let h = opened.header in
    let read = c.args.header.now in
    let is = opened.capped in
    let end = c.args.end in
    let script = c.args.script.now in
    let started = c.in-Ok.ensures.ok.1 in
    let capped : has_wide h.word (map cap (fractions_of h)) ≡ has_wide read.word read.fractions = ap (λ (r : CappedHeader). has_wide r.word r.fractions) (sym is) in
    let narrow : has_wide h.word (fractions_of h) ≡ false = sym (caps_wide h.word (fractions_of h)) ∙ capped ∙ c.in-Ok.ensures.ok.0 in
    let registers : zeros read.fractions ≡ zeros (fractions_of h) = ap (λ (r : CappedHeader). zeros r.fractions) is ∙ ap zeros (caps_narrow h.word (fractions_of h) narrow) in
    let is_run = run_of_lines script _ (pieces (drop end script)) opened.cut h opened.is narrow in
    told_started script (drop end script) h c.word.result c.answer_lines.result c.declare.new.self c.answer_lines.new.room is_run (c.word.ensures ∙ ap (λ (r : CappedHeader). r.word) is) started.no_answers (started.its_registers ∙ registers) (simp take_rest at c.answer_lines.ensures.tells)

pub returns-in-Err-clause-tells : goal.returns-in-Err-clause-tells
returns-in-Err-clause-tells c =
    let opened = c.requires.opened in
    let h = opened.header in
    let read = c.args.header.now in
    let facts = c.in-Err.ensures.err in
    let capped : has_wide h.word (map cap (fractions_of h)) ≡ has_wide read.word read.fractions = ap (λ (r : CappedHeader). has_wide r.word r.fractions) (sym opened.capped) in
    let wide : has_wide h.word (fractions_of h) ≡ true = sym (caps_wide h.word (fractions_of h)) ∙ capped ∙ facts.0 in
    told_none _ c.in-Err.cause c.declare.new.self
    (run_of_wide c.args.script.now _ _ opened.cut h opened.is wide ∙ ap (λ cause. stopped None cause) (sym facts.1))
    facts.2.no_answers facts.2.no_word facts.2.no_registers
