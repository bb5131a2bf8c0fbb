-- A number is held as one that fits where it does.
use Rattle.std.proofs.Common.{◌∙◌, sym}
use Rattle.fixed_text.specs.Numbers.{whole_in}
use Rattle.fixed_text.proofs.Caps.{held_alike}
use Rattle.fixed_text.proofs.numbers.read_word.Goals as goal

pub returns-in-Some : goal.returns-in-Some
returns-in-Some g c =
    let held = sym c.in-Some.is ∙ c.read_decimal.ensures.held in
    let alike = held_alike g.T.RawWord.SIGNED g.T.Valued.BITS (whole_in c.args.token.now) c.in-Some.number g.met.T.RawWord.width_law held in
    rw (← alike) c.fitting.ensures
