use Rattle.std.proofs.Common.{◌-◌, ◌∙◌, arith, sym}
use Rattle.fixed_elementary.proofs.Closing.{found_is}
use Rattle.fixed_elementary.proofs.logarithms.broad_log2.Goals as goal

pub returns-then-broad_units-least : goal.returns-then-broad_units-least
returns-then-broad_units-least c =
    let log = c.broad_log-log.result in
    let same = sym c.if-broad_units-least.true in
    found_is c.args.places (126 - c.args.places) 23 c.args.a log.digits log.part c.broad_units-least.result 126 126 (omega (arith, c.requires.places)) c.broad_units-least.ensures (same ∙ c.broad_units.ensures) c.broad_log-log.ensures.value
