use Rattle.std.proofs.Common.{◌≡◌, ◌++◌, ◌-◌, length, take, drop, ap, sym, ◌∙◌, arith}
use Rattle.std.proofs.lemmas.List.{length-drop, nil_from_length, take_all}
use Rattle.fixed_text.specs.Runs.{Output}
use Rattle.fixed_calc.proofs.Spellings.{nothing_spelled, script_spelled}
use Rattle.fixed_calc.proofs.spelled.explicit.Goals as goal

pub returns-in-Ok-spell_lines : goal.returns-in-Ok-spell_lines
returns-in-Ok-spell_lines c =
    let end = c.piece_end-end.result in
    let script = c.args.script.now in
    let h = c.in-Some.ensures in
    let copied = c.in-Ok-extend_from_slice.ensures.items ∙ ap (λ bs. bs ++ take end script) c.in-Ok.ensures.items in
    let whole : take (length script - end) (drop end script) ≡ drop end script = take_all (length script - end) (drop end script) (omega (arith, length-drop end script)) in
    script_spelled script (take end script) (drop end script) c.extend_from_slice.new.self.items h.0 c.piece_end-end.ensures.cut h.1 copied ∙ rw whole at c.in-Ok-spell_lines.ensures
    ∙ ap Output (sym c.new.ensures)

pub returns-then-is_empty : goal.returns-then-is_empty
returns-then-is_empty c = nothing_spelled c.args.script.now (nil_from_length c.args.script.now (grind arith))
