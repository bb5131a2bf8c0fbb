use Rattle.std.proofs.Common.{List, ℕ, sym, subst}
use Rattle.fixed_text.specs.Readings.{Reading}
use Rattle.fixed_text.specs.Answers.{IsStepOfLine}
use Rattle.fixed_filter.specs.inside.Kept.{KeptState}
use Rattle.fixed_text.specs.Numbers.{only_number}
use Rattle.fixed_filter.proofs.Lines.{sampled}
use Rattle.fixed_filter.proofs.filter_script.FilterRun.take_sample.Goals as goal

pub returns-in-Ok : goal.returns-in-Ok
returns-in-Ok g c = λ j e.
    let number = g.T.Valued.value in
    let is = sampled c.args.self.now g.T.RawWord.SIGNED g.T.Valued.BITS j c.in-Some-place.place c.in-Some.number g.met.T.RawWord.width_law c.in-Some-place.ensures.word (c.in-Some-place.ensures.place j e) (only_number c.args.tokens) (number c.in-Ok.sample) c.in-Some.ensures c.in-Ok.ensures in
    subst (λ (r : Reading (KeptState × List ℕ)). IsStepOfLine r c.answer.result c.answer.new.self c.args.output.now c.answer.new.output) (sym is) c.answer.ensures
