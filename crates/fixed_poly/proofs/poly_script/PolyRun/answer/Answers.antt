use Rattle.std.proofs.Common.{◌<◌, length, map, arith}
use Rattle.std.proofs.lemmas.List.{length-map}
use Rattle.std.proofs.lemmas.Bool.Decides.{nat_tests}
use Rattle.fixed_text.specs.Numbers.{only_number}
use Rattle.fixed_poly.specs.Runs.{PolyState, answer_text}
use Rattle.fixed_poly.proofs.Lines.{at_answered, at_refused}
use Rattle.fixed_poly.proofs.poly_script.PolyRun.answer.Goals as goal

pub returns-in-Ok-append_reply : goal.returns-in-Ok-append_reply
returns-in-Ok-append_reply g c =
    let number = g.T.Valued.value in
    let state : PolyState = record { signed = g.T.RawWord.SIGNED; bits = g.T.Valued.BITS; frac = c.self.inside.frac; coefs = map number c.self.inside.coefs.items } in
    let i = c.if-is_empty.false in
    let j = c.is_empty.ensures in
    let l = length-map c.self.inside.coefs.items number in
    let o = c.self.inside.coefs.ok.0 in
    let some : 0 < length (map number c.self.inside.coefs.items) = grind (arith, nat_tests) in
    let value = rw c.deref.ensures.value at c.horner_of.ensures in (
      answer_text state (number c.in-Ok.x),
      at_answered c.args.self.now state (only_number c.args.tokens) c.in-Some.number c.self.view_is g.met.T.RawWord.width_law some c.in-Some.ensures (number c.in-Ok.x) c.in-Ok.ensures,
      rw value at c.in-Ok-append_reply.ensures,
    )

pub returns-in-Err : goal.returns-in-Err
returns-in-Err g c =
    let number = g.T.Valued.value in
    let state : PolyState = record { signed = g.T.RawWord.SIGNED; bits = g.T.Valued.BITS; frac = c.self.inside.frac; coefs = map number c.self.inside.coefs.items } in
    let i = c.if-is_empty.false in
    let j = c.is_empty.ensures in
    let l = length-map c.self.inside.coefs.items number in
    let o = c.self.inside.coefs.ok.0 in
    let some : 0 < length (map number c.self.inside.coefs.items) = grind (arith, nat_tests) in
    at_refused c.args.self.now state (only_number c.args.tokens) c.in-Some.number c.self.view_is g.met.T.RawWord.width_law some c.in-Some.ensures c.in-Err.refusal c.in-Err.ensures
