use Rattle.std.proofs.Common.{◌≡◌, ◌==◌, ◌∙◌, ap}
use Rattle.std.specs.List.{count_by}
use Rattle.fixed_calc.specs.Demo.{is_absent, has_true_verdict, summary_text}
use Rattle.fixed_calc.proofs.Letters.{absent_count, verdict_count}
use Rattle.fixed_calc.proofs.summary.summary_of.Goals as goal

pub returns : goal.returns
returns c = λ given is.
    let absent : c.count_of-absent.result ≡ count_by is_absent given = c.count_of-absent.ensures ∙ ap (count_by (λ b. b == 111)) is ∙ absent_count given in
    let verdicts : c.count_of-verdicts.result ≡ count_by has_true_verdict given = c.count_of-verdicts.ensures ∙ ap (count_by (λ b. b == 116)) is ∙ verdict_count given in
    c.summary_text.ensures ∙ (λ i. summary_text c.args.lines (absent i) (verdicts i))
