-- The number that the words say is the one that was read.
use Rattle.std.proofs.Common.{◌≡◌, ℕ, subst}
use Rattle.fixed_calc.specs.Calls.{WritesOfStatus}
use Rattle.fixed_calc.specs.Demo.{summary}
use Rattle.fixed_calc.specs.Headline.{IsEndOfDemo}
use Rattle.fixed_calc.proofs.Asked.{one_asked}
use Rattle.fixed_calc.proofs.top.status_of.Goals as goal

pub returns-in-Some-Demo-clause-demo : goal.returns-in-Some-Demo-clause-demo
returns-in-Some-Demo-clause-demo g c = λ n asked.
    let same = one_asked c.args.words.now c.in-Some-Demo.lines n (rw c.in-Some-Demo.field-0-is at c.in-Some-Demo.ensures) asked in
    subst (λ (m : ℕ). IsEndOfDemo (g.K.Sink.state c.args.sink.now) (g.K.Sink.state c.demonstrate.new.sink) (summary m) c.demonstrate.result) same c.demonstrate.ensures.summary

pub returns-in-Some-Demo-clause-demo_writes : goal.returns-in-Some-Demo-clause-demo_writes
returns-in-Some-Demo-clause-demo_writes g c = λ n asked.
    let same = one_asked c.args.words.now c.in-Some-Demo.lines n (rw c.in-Some-Demo.field-0-is at c.in-Some-Demo.ensures) asked in
    subst (λ (m : ℕ). WritesOfStatus g.K.Sink.write_gives (λ bytes. bytes ≡ summary m) c.args.sink.now c.demonstrate.new.sink c.demonstrate.result) same c.demonstrate.ensures.writes
