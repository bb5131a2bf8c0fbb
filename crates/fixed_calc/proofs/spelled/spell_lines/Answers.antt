use Rattle.std.proofs.Common.{◌∙◌, ap, sym, arith}
use Rattle.std.proofs.lemmas.List.{drop_all}
use Rattle.fixed_word.specs.Pieces.{pieces}
use Rattle.fixed_text.specs.Runs.{meaning_of}
use Rattle.fixed_text.specs.inside.Ends.{after}
use Rattle.fixed_calc.specs.inside.Spelling.{spelled_lines}
use Rattle.fixed_calc.proofs.Spellings.{spelling_ends}
use Rattle.fixed_calc.proofs.spelled.spell_lines.Goals as goal

pub returns : goal.returns
returns c =
    let bytes = c.loop-at.script.items in
    let k = c.loop-at.number in
    ap meaning_of (sym c.loop-at.invariant.same) ∙ ap (λ ys. meaning_of (after bytes (spelled_lines k (pieces ys)))) (drop_all c.loop-at.at c.args.lines.now (omega (arith, c.loop-at-test.false))) ∙ spelling_ends bytes k
