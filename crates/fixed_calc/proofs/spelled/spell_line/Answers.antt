use Rattle.std.proofs.Common.{◌++◌, take, drop, ap, ◌∙◌}
use Rattle.fixed_calc.specs.inside.Spelling.{with_end}
use Rattle.fixed_calc.proofs.Spellings.{added_seen, piece_written, spelling_moves, spelling_stops}
use Rattle.fixed_calc.proofs.spelled.spell_line.Goals as goal

pub returns-in_default-clause-err : goal.returns-in_default-clause-err
returns-in_default-clause-err c =
    let end = c.piece_end-end.result in
    let rest = c.args.rest.now in
    spelling_stops c.args.script.now.items c.args.number rest (take end rest) (drop end rest) c.piece_end-end.ensures.cut c.in_default.ensures

pub returns-in-Ok-clause-ok : goal.returns-in-Ok-clause-ok
returns-in-Ok-clause-ok c =
    let end = c.piece_end-end.result in
    let rest = c.args.rest.now in
    let old = c.args.script.now.items in
    let l = c.in-Some.ensures in
    let written = c.in-Ok.ensures ∙ ap (λ o. old ++ with_end o (take end rest)) (added_seen c.in-Some.line l.0 l.2) ∙ ap (λ bs. old ++ bs) (piece_written (take end rest) l.0 l.1) in
    record {
      some = c.piece_end-end.ensures.some;
      within = c.piece_end-end.ensures.within;
      same = spelling_moves old c.push_spelled.new.script.items c.args.number rest (take end rest) (drop end rest) l.0 c.piece_end-end.ensures.cut l.1 written;
    }
