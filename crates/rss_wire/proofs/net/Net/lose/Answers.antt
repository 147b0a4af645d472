use Rattle.std.proofs.Common.{◌∙◌, arith, refl, ap, sym}
use Rattle.rss_wire.specs.Net.{lose_refusal}
use Rattle.rss_wire.proofs.Fates.{count_requests-meets, pending_count-meets}
use Rattle.rss_wire.proofs.net.Net.lose.Goals as goal

pub overflow_sub-self : goal.overflow_sub-self
overflow_sub-self c =
    let none : _ = ap (λ v. lose_refusal v.messages c.args.number) c.self.view_is ∙ sym c.lose_refusal.ensures ∙ c.in_default.is in
    omega (arith, c.self.invariant.pending, pending_count-meets _ _ _ _ c.meet.ensures.fate none refl)

pub invariant_of-self : goal.invariant_of-self
invariant_of-self c =
    let none : _ = ap (λ v. lose_refusal v.messages c.args.number) c.self.view_is ∙ sym c.lose_refusal.ensures ∙ c.in_default.is in
    record {
      spare_messages = omega (arith, c.self.invariant.spare_messages, c.meet.ensures.len, c.meet.ensures.capacity);
      spare_lines = c.self.invariant.spare_lines;
      ordinals = λ s t. c.self.invariant.ordinals s t ∙ sym (count_requests-meets _ _ _ _ c.meet.ensures.fate s t);
      pending = omega (arith, c.self.invariant.pending, pending_count-meets _ _ _ _ c.meet.ensures.fate none refl);
    }
