use Rattle.std.proofs.Common.{◌≡◌, ◌+◌, ◌-◌, ◌/◌, ◌%◌, ◌^◌, ◌<◌, ℕ, suc, subst, sym, ap, ◌∙◌, arith}
use Rattle.std.proofs.lemmas.List.{length-set}
use Rattle.std.specs.Fmt.{digit_glyph}
use Rattle.fixed_radix.proofs.Powers.{below_more, shorter}
use Rattle.fixed_radix.proofs.Shown.{first_put, whole_put}
use Rattle.fixed_radix.proofs.digits.put_whole.Goals as goal

pub loop-rest-init : goal.loop-rest-init
loop-rest-init c =
    let u = c.args.upper in
    let j : c.args.end - 1 + 64 - c.args.end ≡ 63 = omega (arith, c.requires.room) in
    record {
      long = length-set c.args.buffer.now (c.args.end - 1) c.glyph.result;
      below = omega (arith, c.requires.room);
      room = omega (arith, c.requires.room);
      small = subst (λ (k : ℕ). c.args.number / 2 ^ c.args.bits < 2 ^ k) (sym j) (shorter c.args.number 63 c.args.bits (omega arith) c.requires.bits.0);
      shown = first_put (2 ^ c.args.bits) u c.args.number c.args.end c.glyph.result c.args.buffer.now (omega (arith, c.requires.room)) c.requires.within (c.glyph.ensures ∙ ap (digit_glyph u) (c.last_digit.ensures.value ∙ ap (λ n. n % 2 ^ c.args.bits) c.from.ensures));
    }

pub loop-rest-preserved : goal.loop-rest-preserved
loop-rest-preserved c =
    let u = c.args.upper in
    let i = c.loop-rest.invariant in
    let at = c.loop-rest.at in
    let n = c.loop-rest.rest in
    let room = below_more n (at + 64 - c.args.end) c.loop-rest-test.true i.small in
    let more : at + 64 - c.args.end ≡ suc (at - 1 + 64 - c.args.end) = omega (arith, room, i.below, c.requires.room) in
    record {
      long = length-set c.loop-rest.buffer (at - 1) c.glyph-in-loop-rest.result ∙ i.long;
      below = omega (arith, i.below);
      room = omega (arith, room, i.below, c.requires.room);
      small = shorter n (at - 1 + 64 - c.args.end) c.args.bits (subst (λ (k : ℕ). n < 2 ^ k) more i.small) c.requires.bits.0;
      shown = i.shown ∙ whole_put (2 ^ c.args.bits) u n at c.args.end c.glyph-in-loop-rest.result c.loop-rest.buffer c.loop-rest-test.true (omega (arith, room)) (omega (arith, room, c.requires.room)) (omega (arith, i.below, c.requires.within, i.long)) (c.glyph-in-loop-rest.ensures ∙ ap (digit_glyph u) (c.last_digit-in-loop-rest.ensures.value ∙ ap (λ k. k % 2 ^ c.args.bits) c.from-in-loop-rest.ensures));
    }
