use Rattle.std.proofs.Common.{◌≡◌, length, ap, sym, subst, ◌∙◌}
use Rattle.fixed_filter.specs.declared.reply.Reply.TheVariants.{Value}
use Rattle.fixed_filter.specs.Banks.{places_of, reply_of}
use Rattle.fixed_filter.proofs.Bounded.{bounded_reply}
use Rattle.fixed_filter.proofs.channel.Channel.output.Goals as goal

pub returns-in-Some : goal.returns-in-Some
returns-in-Some g c =
    let number = g.T.Valued.value in
    let signed = g.T.RawWord.SIGNED in
    let n = g.T.Valued.BITS in
    let shape = c.args.shape.now in
    let held = c.self.invariant in
    let count = c.len.ensures ∙ sym c.deref.ensures.len ∙ ap length c.deref.ensures.value in
    let room = rw count at c.in-Some.ensures in
    let sum = rw (c.deref.ensures.value, c.deref-in-Some.ensures.value) at c.wrapped_sum_of_past.ensures in
    let reply = ap (λ z. Value z) sum ∙ sym (bounded_reply number signed n c.self.inside.taps.items c.self.inside.past.items c.self.inside.weight c.self.inside.peak c.in-Some.down (places_of shape) g.met.T.RawWord.width_law held.0 held.2 room) in
    subst (λ filter. Value (number c.wrapped_sum_of_past.result) ≡ reply_of number signed n shape filter) c.self.view_is reply
