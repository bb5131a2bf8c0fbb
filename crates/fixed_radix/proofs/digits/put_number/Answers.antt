use Rattle.std.proofs.Common.{◌-◌, ◌/◌, ◌*◌, ◌^◌, ◌++◌, List, ℕ, drop, set, append-nil, sym, ap, ◌∙◌, arith}
use Rattle.std.specs.Fmt.{digits}
use Rattle.std.proofs.lemmas.List.{drop_all}
use Rattle.fixed_radix.specs.Bases.{base_text}
use Rattle.fixed_radix.proofs.Powers.{pow_pow}
use Rattle.fixed_radix.proofs.Shown.{text_put}
use Rattle.fixed_radix.proofs.digits.put_number.Goals as goal

pub returns-then-places-eq0-clause-text : goal.returns-then-places-eq0-clause-text
returns-then-places-eq0-clause-text c =
    let b : ℕ = 2 ^ c.args.bits in
    c.put_whole.ensures.digits
    ∙ ap (λ (l : List ℕ). digits b c.args.upper c.args.number ++ l) (drop_all 130 c.args.buffer.now (omega (arith, c.told-buffer)))
    ∙ append-nil (digits b c.args.upper c.args.number)
    ∙ sym (ap (base_text b c.args.upper c.args.number) c.if-places-eq0.true)

pub overflow_cast-whole-3 : goal.overflow_cast-whole-3
overflow_cast-whole-3 c = omega (arith, c.requires.whole)

pub returns-clause-text : goal.returns-clause-text
returns-clause-text c =
    let b : ℕ = 2 ^ c.args.bits in
    text_put b c.args.upper c.args.number c.args.places c.put_whole-2.result c.args.buffer.now c.put_places.new.buffer c.put_whole-2.new.buffer c.if-places-eq0.false c.requires.places c.told-buffer (c.put_places.auto.buffer ∙ c.told-buffer)
    c.put_places.ensures
    (c.put_whole-2.ensures.digits ∙ ap (λ d. digits b c.args.upper (c.args.number / d) ++ drop (129 - c.args.places) (set c.put_places.new.buffer (129 - c.args.places) 46)) (sym (pow_pow 2 c.args.bits c.args.places)))
