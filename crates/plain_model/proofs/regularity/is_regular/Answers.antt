use Rattle.std.proofs.Common.{◌∙◌, sym, ap}
use Rattle.std.proofs.lemmas.Bool.{false≢true}
use Rattle.plain_model.proofs.Candidates.{candidate-Decides}
use Rattle.plain_model.proofs.Closure.{named, causality}
use Rattle.plain_model.proofs.RegularOrders.{kept-Decides, to_regular, from_regular}
use Rattle.plain_model.specs.Orders.{keeps_order}
use Rattle.plain_model.specs.Causes.{causes}
use Rattle.plain_model.proofs.regularity.is_regular.Goals as goal
use Rattle.plain_model.proofs.regularity.is_regular.Goals.{then-not-is_candidate-via-then-not-is_candidate, then-not-is_candidate-via-else-not-is_candidate+in_ok-is_legal+then-not-branch}

pub returns-then-not-is_candidate : goal.returns-then-not-is_candidate
returns-then-not-is_candidate c = (
  λ t. absurd (false≢true t),
  λ r.
      elim c.then-not-is_candidate.branch [
        | then-not-is_candidate-via-then-not-is_candidate w ↦
            sym w.if-not-is_candidate.true ∙ c.is_candidate.ensures ∙
            (candidate-Decides c.args.h.now c.args.c.now).1 r.candidate
        | then-not-is_candidate-via-else-not-is_candidate+in_ok-is_legal+then-not-branch w ↦
            sym w.if-not-branch.true ∙ w.in_ok-is_legal.ensures.1 r.legal
      ],
)

pub returns : goal.returns
returns c =
    let candidate =
    (candidate-Decides c.args.h.now c.args.c.now).0
    (sym c.is_candidate.ensures ∙ c.if-not-is_candidate.false) in
    let legal = c.in_ok-is_legal.ensures.0 c.if-not-branch.false in
    let kept = kept-Decides c.args.h.now (causes c.args.h.now (named c.args.h.now)) (causality c.args.h.now) c.args.c.now in
    let tested =
    c.keeps_order.ensures ∙
    ap (λ pairs. keeps_order c.args.h.now pairs c.args.c.now)
    (c.deref.ensures.value ∙ c.in_ok-causality.ensures) in (
      λ t. to_regular c.args.h.now c.args.c.now candidate legal (kept.0 (sym tested ∙ t)),
      λ r. tested ∙ kept.1 (from_regular c.args.h.now c.args.c.now r),
    )
