use Rattle.std.proofs.Common.{List, Option, sym, ap, ◌∙◌}
use Rattle.std.specs.Option.{option_map}
use Rattle.fixed_text.specs.Readings.{Read}
use Rattle.fixed_interval.specs.Ends.{Bounds, Ends, ends_of}
use Rattle.fixed_interval.specs.Runs.{IntervalState, answered, ends_text, with_register}
use Rattle.fixed_interval.proofs.Starts.{set_seen}
use Rattle.fixed_interval.proofs.interval_script.IntervalRun.answer.Goals as goal

pub returns-in-Ok : goal.returns-in-Ok
returns-in-Ok g c =
    let seen = ends_of g.T.Valued.value in
    let inside = c.self.inside in
    let dest = c.args.dest in
    let e = seen c.in-Some.interval in
    let viewed = λ (registers : List Ends). let s : IntervalState = record { signed = g.T.RawWord.SIGNED; bits = g.T.Valued.BITS; frac = inside.frac; registers = registers } in s in (
      ends_text e,
      ap (λ (o : Option (Bounds g.row.T.Denot)). answered c.args.self.now dest (option_map seen o)) c.in-Some.is
          ∙ ap (λ (s : IntervalState). Read (with_register dest e s, ends_text e)) (sym c.self.view_is)
          ∙ ap (λ (registers : List Ends). Read (viewed registers, ends_text e)) (sym (set_seen seen inside.registers.items dest c.in-Some.interval)),
      c.in-Ok.ensures,
    )
