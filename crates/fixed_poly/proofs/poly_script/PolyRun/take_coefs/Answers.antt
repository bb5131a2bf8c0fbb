use Rattle.std.proofs.Common.{◌<◌, length, [], map, refl, arith}
use Rattle.std.proofs.lemmas.Bool.Decides.{nat_tests}
use Rattle.fixed_poly.specs.Runs.{PolyState}
use Rattle.fixed_poly.proofs.Lines.{coefs_taken}
use Rattle.fixed_poly.proofs.poly_script.PolyRun.take_coefs.Goals as goal

pub returns-in-Ok : goal.returns-in-Ok
returns-in-Ok g c =
    let number = g.T.Valued.value in
    let state : PolyState = record { signed = g.T.RawWord.SIGNED; bits = g.T.Valued.BITS; frac = c.self.inside.frac; coefs = map number c.self.inside.coefs.items } in
    let i = c.if-is_empty.false in
    let j = c.is_empty.ensures in
    let some : 0 < length c.args.tokens = grind (arith, nat_tests) in
    ([], coefs_taken c.args.self.now state c.args.tokens (map number c.in-Ok.coefs.items) c.self.view_is some c.in-Ok.ensures, refl)
