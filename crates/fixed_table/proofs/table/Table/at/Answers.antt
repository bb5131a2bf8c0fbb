use Rattle.std.proofs.Common.{◌-◌, pos, length, map, sym, ap, ◌∙◌, arith}
use Rattle.std.proofs.lemmas.List.{length-map}
use Rattle.fixed_table.specs.Interpolation.{interpolated}
use Rattle.fixed_table.proofs.Points.{at_inner, at_last}
use Rattle.fixed_table.proofs.table.Table.at.Goals as goal

pub returns-then-index-last : goal.returns-then-index-last
returns-then-index-last g c =
    let number = g.T.Valued.value in
    let inside = c.args.self.now.values.now in
    let values = map (λ v. number v.bits) inside in
    let count = length-map inside (λ v. number v.bits) in
    c.value_at.ensures
    ∙ sym (at_last c.args.self.now.step values (length inside - 1) c.units_above-units.result (pos 0) (omega (arith, count, c.requires.some)) c.if-index-last.true)
    ∙ ap (interpolated c.args.self.now.step values) c.units_above-units.ensures

pub returns : goal.returns
returns g c =
    let number = g.T.Valued.value in
    let inside = c.args.self.now.values.now in
    let k = c.args.self.now.step in
    let units = c.units_above-units.result in
    let values = map (λ v. number v.bits) inside in
    let count = length-map inside (λ v. number v.bits) in
    let line = at_inner k values units (pos 0) (omega (arith, count, c.if-index-last.false)) in
    c.interpolate_of.ensures
    ∙ rw (c.value_at-start.ensures, c.value_at-end.ensures, c.part_past.ensures.rest) (sym line)
    ∙ ap (interpolated k values) c.units_above-units.ensures
