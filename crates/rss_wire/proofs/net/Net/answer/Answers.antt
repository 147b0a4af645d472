use Rattle.std.proofs.Common.{arith, ap}
use Rattle.rss_wire.proofs.Counts.{count_requests-append, pending_count-append, pending_count-le}
use Rattle.rss_wire.proofs.net.Net.answer.Goals as goal

pub overflow_add-self : goal.overflow_add-self
overflow_add-self c =
    omega (
      arith,
      c.self.invariant.pending,
      pending_count-le c.self.inside.messages.items,
      c.next_number-number.ensures,
      c.next_number-number.type_inv,
    )

pub invariant_of-self : goal.invariant_of-self
invariant_of-self c =
    let pushed : _ = rw c.unwrap.ensures at c.push.ensures.items in
    record {
      spare_messages = omega (arith, c.requires.room, c.self.invariant.spare_messages, ap (λ v. v.room) c.self.view_is, c.push.ensures.len, c.push.ensures.capacity);
      spare_lines = omega (arith, c.self.invariant.spare_lines);
      ordinals = λ s t. grind (arith, pushed, c.reply_envelope-envelope.ensures, count_requests-append s t c.self.inside.messages.items, c.self.invariant.ordinals s t);
      pending = grind (arith, pushed, pending_count-append c.self.inside.messages.items, c.self.invariant.pending);
    }
