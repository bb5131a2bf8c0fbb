use Rattle.std.proofs.Common.{◌-◌, ◌∙◌, arith, sym}
use Rattle.fixed_elementary.proofs.Closing.{found_is}
use Rattle.fixed_elementary.proofs.logarithms.narrow_log2.Goals as goal

pub returns-then-narrow_units-least : goal.returns-then-narrow_units-least
returns-then-narrow_units-least c =
    let log = c.narrow_log-log.result in
    let same = sym c.if-narrow_units-least.true in
    found_is c.args.places (62 - c.args.places) 14 c.args.a log.digits log.part c.narrow_units-least.result 62 62 (omega (arith, c.requires.places)) c.narrow_units-least.ensures (same ∙ c.narrow_units.ensures) c.narrow_log-log.ensures.value
