use Rattle.std.proofs.Common.{◌∙◌, arith, refl, ap, sym}
use Rattle.rss_wire.specs.Net.{again_refusal}
use Rattle.rss_wire.proofs.Fates.{count_requests-meets, pending_count-repeats}
use Rattle.rss_wire.proofs.net.Net.again.Goals as goal

pub invariant_of-self : goal.invariant_of-self
invariant_of-self c =
    let none : _ = ap (λ v. again_refusal v.messages c.args.number) c.self.view_is ∙ sym c.again_refusal.ensures ∙ c.in_default.is in
    record {
      spare_messages = omega (arith, c.self.invariant.spare_messages, c.meet.ensures.len, c.meet.ensures.capacity);
      spare_lines = c.self.invariant.spare_lines;
      ordinals = λ s t. c.self.invariant.ordinals s t ∙ sym (count_requests-meets _ _ _ _ c.meet.ensures.fate s t);
      pending = c.self.invariant.pending ∙ sym (pending_count-repeats _ _ _ _ c.meet.ensures.fate none refl);
    }
