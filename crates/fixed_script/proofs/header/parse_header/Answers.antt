use Rattle.std.proofs.Common.{sym, ◌∙◌, ap, ◌∷◌, arith, length}
use Rattle.std.proofs.lemmas.Bool.{false≢true}
use Rattle.fixed_text.specs.Tokens.{tokens_of, tokens_left}
use Rattle.fixed_script.specs.Headers.{all_decimal}
use Rattle.fixed_text.proofs.Cuts.{tokens_some}
use Rattle.fixed_script.proofs.HeaderLaws.{header_parts, header_found}
use Rattle.fixed_script.proofs.header.parse_header.Goals as goal

pub returns-in_default-fractions-clause-none : goal.returns-in_default-fractions-clause-none
returns-in_default-fractions-clause-none c = λ h text.
    let p = header_parts h c.args.piece.now _ _ text c.cut.ensures in
    omega (arith, p.some, ap (λ r. length (tokens_left r)) c.in_default-fractions.is)

pub returns-else-all_decimal-clause-none : goal.returns-else-all_decimal-clause-none
returns-else-all_decimal-clause-none c = λ h text.
    let p = header_parts h c.args.piece.now _ _ text c.cut.ensures in
    false≢true (c.if-all_decimal.ensures ∙ ap (λ r. all_decimal (tokens_left r)) (sym c.in-Some-fractions.is) ∙ p.decimals)

pub returns-then-all_decimal-clause-found : goal.returns-then-all_decimal-clause-found
returns-then-all_decimal-clause-found c =
    header_found c.args.piece.now c.cut.result.0.now (tokens_of c.in-Some-fractions.fractions.now) c.in-Some.word
    (c.cut.ensures ∙ ap (λ r. c.cut.result.0.now ∷ tokens_left r) c.in-Some-fractions.is) (tokens_some c.in-Some-fractions.fractions.now) (sym c.in-Some.ensures) (sym c.if-all_decimal.ensures)
