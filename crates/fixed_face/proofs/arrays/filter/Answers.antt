use Rattle.std.proofs.Common.{rules, Ok, ap, sym, ◌∙◌, ◌≡◌, length, arith}
use Rattle.fixed_filter.specs.Banks.{IsShape}
use Rattle.fixed_face.specs.Filters.{filter_of}
use Rattle.fixed_face.proofs.PlacesLeft.{output_found, output_is, past_is, place_left, tap_found, value_left}
use Rattle.fixed_face.proofs.arrays.filter.Goals as goal

pub returns-in-Value : goal.returns-in-Value
returns-in-Value g c =
    let number = g.T.Valued.value in
    let s = g.T.RawWord.SIGNED in
    let n = g.T.Valued.BITS in
    let filter = filter_of c.args.taps.now c.args.past.now in
    let shape : IsShape n c.args.shape = (omega arith, omega arith, omega arith) in
    let some = sym c.is_empty.ensures ∙ c.if-is_empty.false in
    let many : length c.args.taps.now ≡ length c.args.past.now = omega arith in
    record {
      answer = value_left number _ c.in-Value.found _ (output_is number s n c.args.shape c.args.sample filter shape some many ∙ ap Ok (output_found _ (number c.in-Value.found) (rw c.put_in_front.ensures at c.in-Value.ensures)));
      past = c.put_in_front.ensures ∙ sym (past_is n c.args.shape c.args.sample filter shape some many);
    }

pub returns-in-Overflow : goal.returns-in-Overflow
returns-in-Overflow g c =
    let number = g.T.Valued.value in
    let s = g.T.RawWord.SIGNED in
    let n = g.T.Valued.BITS in
    let filter = filter_of c.args.taps.now c.args.past.now in
    let shape : IsShape n c.args.shape = (omega arith, omega arith, omega arith) in
    let some = sym c.is_empty.ensures ∙ c.if-is_empty.false in
    let many : length c.args.taps.now ≡ length c.args.past.now = omega arith in
    record {
      answer = place_left number _ c.in-Overflow.place _ _ (output_is number s n c.args.shape c.args.sample filter shape some many ∙ ap Ok (tap_found _ c.in-Overflow.place (rw c.put_in_front.ensures at c.in-Overflow.ensures))) (search rules);
      past = c.put_in_front.ensures ∙ sym (past_is n c.args.shape c.args.sample filter shape some many);
    }
