use Rattle.std.proofs.Common.{arith, ◌∙◌, sym, ap}
use Rattle.rss_wire.specs.declared.message.Body.TheVariants as body
use Rattle.rss_wire.specs.declared.message.Fate.TheVariants.{Pending}
use Rattle.rss_wire.specs.Messages.{count_requests}
use Rattle.rss_wire.proofs.Counts.{count_requests-le, pending_count-append, pending_count-le}
use Rattle.rss_wire.proofs.Lines.{counted-next}
use Rattle.rss_wire.proofs.net.Net.ask.Goals as goal

pub request_envelope-envelope-requires-clause-few :
    goal.request_envelope-envelope-requires-clause-few
request_envelope-envelope-requires-clause-few c =
    omega (
      arith,
      c.self.invariant.ordinals c.args.stage c.args.target,
      count_requests-le c.args.stage c.args.target c.self.inside.messages.items,
      c.next_number-number.ensures,
      c.next_number-number.type_inv,
    )

pub overflow_add-self : goal.overflow_add-self
overflow_add-self c =
    omega (
      arith,
      c.self.invariant.pending,
      pending_count-le c.self.inside.messages.items,
      c.next_number-number.ensures,
      c.next_number-number.type_inv,
    )

pub invariant_of-self : goal.invariant_of-self
invariant_of-self c =
    let pushed : _ = rw c.unwrap.ensures at c.push.ensures.items in
    record {
      spare_messages = omega (arith, c.requires.room, c.self.invariant.spare_messages, ap (λ v. v.room) c.self.view_is, c.push.ensures.len, c.push.ensures.capacity);
      spare_lines = omega (arith, c.self.invariant.spare_lines, c.request_envelope-envelope.ensures.spare);
      ordinals = λ s t. counted-next c.self.inside.lines c.request_envelope-envelope.new.lines c.self.inside.messages.items
          (record { envelope = c.request_envelope-envelope.result; body = body.Request c.args.body; fate = Pending }) c.args.stage c.args.target c.request_envelope-envelope.result.ordinal
          c.self.invariant.ordinals c.request_envelope-envelope.ensures.counted
          (ap (λ e. e.ordinal) c.request_envelope-envelope.ensures.envelope)
          (ap (λ e. e.request) c.request_envelope-envelope.ensures.envelope)
          (ap (λ e. e.stage) c.request_envelope-envelope.ensures.envelope)
          (ap (λ e. e.target) c.request_envelope-envelope.ensures.envelope) s t ∙ ap (count_requests s t) (sym pushed);
      pending = grind (arith, pushed, pending_count-append c.self.inside.messages.items, c.self.invariant.pending);
    }
