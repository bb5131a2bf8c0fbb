use Rattle.std.proofs.Common.{ℤ, length, ap, sym, ◌∙◌, arith}
use Rattle.fixed_filter.specs.Banks.{places_of}
use Rattle.fixed_filter.specs.Blocks.{reply_to}
use Rattle.fixed_filter.specs.declared.reply.Reply.TheVariants.{Value, Overflow}
use Rattle.fixed_filter.proofs.Blocks.{past_next, reply_next, writes}
use Rattle.fixed_filter.proofs.block.outputs.Goals as goal

pub returns-in-Overflow-clause-past : goal.returns-in-Overflow-clause-past
returns-in-Overflow-clause-past g c =
    let so_far = c.loop-i.invariant in
    past_next c.args.past.now c.args.input.now c.loop-i.past c.output_at.new.past c.loop-i.i (length c.args.taps.now) c.requires.lengths (omega arith) so_far.past_is c.in-Overflow.ensures.near c.in-Overflow.ensures.far

pub returns-in-Overflow-clause-stop : goal.returns-in-Overflow-clause-stop
returns-in-Overflow-clause-stop g c =
    let number = g.T.Valued.value in
    let left : g.row.A.Denot → ℤ = λ a. number (g.A.Sample.held a) in
    let right : g.row.B.Denot → ℤ = λ b. number (g.B.Sample.held b) in
    let reply = reply_to left right g.T.RawWord.SIGNED g.T.Valued.BITS (places_of c.args.shape.now) c.args.taps.now in
    let so_far = c.loop-i.invariant in
    (omega arith, sym (reply_next c.args.past.now c.args.input.now c.loop-i.past c.output_at.new.past c.loop-i.i (length c.args.taps.now) c.requires.lengths (omega arith) so_far.past_is c.in-Overflow.ensures.near c.in-Overflow.ensures.far reply (Overflow c.in-Overflow.tap) c.in-Overflow.ensures.near_reply c.in-Overflow.ensures.far_reply))

pub loop-i-preserved : goal.loop-i-preserved
loop-i-preserved g c =
    let number = g.T.Valued.value in
    let left : g.row.A.Denot → ℤ = λ a. number (g.A.Sample.held a) in
    let right : g.row.B.Denot → ℤ = λ b. number (g.B.Sample.held b) in
    let out : g.row.C.Denot → ℤ = λ c. number (g.C.Sample.held c) in
    let reply = reply_to left right g.T.RawWord.SIGNED g.T.Valued.BITS (places_of c.args.shape.now) c.args.taps.now in
    let so_far = c.loop-i.invariant in
    let before = c.args.past.now in
    let samples = c.args.input.now in
    let now = past_next before samples c.loop-i.past c.output_at.new.past c.loop-i.i (length c.args.taps.now) c.requires.lengths (omega arith) so_far.past_is c.in-Value.ensures.near c.in-Value.ensures.far in
    let replied = reply_next before samples c.loop-i.past c.output_at.new.past c.loop-i.i (length c.args.taps.now) c.requires.lengths (omega arith) so_far.past_is c.in-Value.ensures.near c.in-Value.ensures.far reply (Value (number c.in-Value.word)) c.in-Value.ensures.near_reply c.in-Value.ensures.far_reply in
    writes reply out before samples c.args.output.now c.loop-i.past c.loop-i.output c.loop-i.i c.from_word.result (omega arith) so_far c.output_at.new.past now (ap (λ w. Value (number w)) c.from_word.ensures ∙ replied)
