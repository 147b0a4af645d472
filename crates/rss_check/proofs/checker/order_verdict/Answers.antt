use Rattle.std.proofs.Common.{ℕ, length, Option, subst}
use Rattle.rss_model.specs.Legal.{Legal}
use Rattle.rss_check.specs.Places.{kept, ArePlaces}
use Rattle.rss_check.specs.Bad.{IsLeastBad, IsUncaused, IsUntimely}
use Rattle.rss_check.proofs.Judged.{of_some, of_none, not_causal, not_timely, regular}
use Rattle.rss_check.proofs.checker.order_verdict.Goals as goal

pub returns-in-Some-3-clause-wrong : goal.returns-in-Some-3-clause-wrong
returns-in-Some-3-clause-wrong c =
    let h = c.args.h.now in
    let order = c.args.c.now in
    let place = kept c.in-Some.places in
    λ config.
    not_causal h order place
    (of_some (λ places. ArePlaces order (kept places)) _ _ c.in-Some.is c.in_ok-places.ensures.placed)
    (c.is_candidate.ensures.0 c.if-not-is_candidate.false)
    (of_none (Legal h order) _ c.in_default-2.is c.in_ok-call.ensures.legal)
    c.in-Some-3.call
    (subst (λ (o : Option ℕ). IsLeastBad (IsUncaused h place) (length h) o) c.in-Some-3.is c.in_ok-call-2.ensures)

pub returns-in-Some-4-clause-wrong : goal.returns-in-Some-4-clause-wrong
returns-in-Some-4-clause-wrong c =
    let h = c.args.h.now in
    let order = c.args.c.now in
    let place = kept c.in-Some.places in
    λ config.
    not_timely h order place
    (of_some (λ places. ArePlaces order (kept places)) _ _ c.in-Some.is c.in_ok-places.ensures.placed)
    (c.is_candidate.ensures.0 c.if-not-is_candidate.false)
    (of_none (Legal h order) _ c.in_default-2.is c.in_ok-call.ensures.legal)
    c.in-Some-4.call
    (subst (λ (o : Option ℕ). IsLeastBad (IsUncaused h place) (length h) o) c.in_default-3.is c.in_ok-call-2.ensures)
    (subst (λ (o : Option ℕ). IsLeastBad (IsUntimely h place) (length h) o) c.in-Some-4.is c.in_ok-call-3.ensures)

pub returns-clause-regular : goal.returns-clause-regular
returns-clause-regular c =
    let h = c.args.h.now in
    let order = c.args.c.now in
    let place = kept c.in-Some.places in
    regular h order place
    (of_some (λ places. ArePlaces order (kept places)) _ _ c.in-Some.is c.in_ok-places.ensures.placed)
    (c.is_candidate.ensures.0 c.if-not-is_candidate.false)
    (of_none (Legal h order) _ c.in_default-2.is c.in_ok-call.ensures.legal)
    (subst (λ (o : Option ℕ). IsLeastBad (IsUncaused h place) (length h) o) c.in_default-3.is c.in_ok-call-2.ensures)
    (subst (λ (o : Option ℕ). IsLeastBad (IsUntimely h place) (length h) o) c.in-None.is c.in_ok-call-3.ensures)
