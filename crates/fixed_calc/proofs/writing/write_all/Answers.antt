use Rattle.std.proofs.Common.{List, ℕ, suc, Ok, take, refl, ◌∙◌, subst, arith}
use Rattle.std.proofs.KnownBytes.{Appends-trans}
use Rattle.std.proofs.Math.Seq.{take-add}
use Rattle.std.proofs.lemmas.List.{length-drop, take_rest}
use Rattle.std.specs.Io.KnownBytes.{Appends}
use Rattle.fixed_calc.proofs.writing.write_all.Goals as goal

pub loop-at-preserved : goal.loop-at-preserved
loop-at-preserved g c =
    let before = (g.K.Sink.state c.args.sink.now).taken in
    let now = (g.K.Sink.state c.loop-at.sink).taken in
    let next = (g.K.Sink.state c.write.new.self).taken in
    let bytes = c.args.bytes.now in
    let gives = g.K.Sink.write_gives in
    record {
      within = omega (arith, c.in-Ok.ensures.within, length-drop c.loop-at.at bytes);
      taken = rw (take-add c.loop-at.at c.in-Ok.count bytes) (Appends-trans before now next _ _ c.loop-at.invariant.taken (subst (λ (part : List ℕ). Appends now next (take c.in-Ok.count part)) (take_rest bytes c.loop-at.at) c.in-Ok.ensures.bytes));
      faults = c.in-Ok.ensures.counts.0 ∙ c.loop-at.invariant.faults;
      shortages = c.in-Ok.ensures.counts.1 ∙ c.loop-at.invariant.shortages;
      writes = (suc c.loop-at.invariant.writes.0, (c.loop-at.at, c.in-Ok.count, c.loop-at.sink, c.loop-at.invariant.writes.1, c.loop-at-test.true, refl, subst (λ (part : List ℕ). gives c.loop-at.sink part (Ok c.in-Ok.count) c.write.new.self) (take_rest bytes c.loop-at.at) c.in-Ok.ensures.gives));
    }
