use Rattle.std.proofs.Common.{◌≡◌, ◌-◌, ◌^◌, ◌++◌, List, ℕ, drop, sym, ap, ◌∙◌, arith}
use Rattle.std.specs.Fmt.{digit_glyph}
use Rattle.fixed_radix.specs.Bases.{last_digits}
use Rattle.fixed_radix.proofs.Shown.{place_put, places_none}
use Rattle.fixed_radix.proofs.digits.put_places.Goals as goal

pub loop-at-preserved : goal.loop-at-preserved
loop-at-preserved c =
    let i = c.loop-at.invariant in
    record {
      from = omega arith;
      within = omega (arith, i.within);
      digits = i.digits ∙ place_put (2 ^ c.args.bits) c.args.upper c.loop-at.rest c.loop-at.at (c.args.end - c.args.count) c.glyph.result c.loop-at.buffer c.loop-at-test.true (omega (arith, i.within, c.requires.within, c.loop-at.auto.buffer)) (c.glyph.ensures ∙ ap (digit_glyph c.args.upper) c.last_digit.ensures.value);
    }

pub returns : goal.returns
returns c =
    let i = c.loop-at.invariant in
    let b : ℕ = 2 ^ c.args.bits in
    let start : ℕ = c.args.end - c.args.count in
    let e : start ≡ c.loop-at.at = omega (arith, i.from) in
    let none : c.loop-at.at - start ≡ 0 = omega (arith, i.from) in
    ap (λ k. drop k c.loop-at.buffer) e
    ∙ sym (i.digits ∙ ap (λ k. last_digits b c.args.upper c.loop-at.rest k ++ drop c.loop-at.at c.loop-at.buffer) none ∙ ap (λ (l : List ℕ). l ++ drop c.loop-at.at c.loop-at.buffer) (places_none b c.args.upper c.loop-at.rest))
