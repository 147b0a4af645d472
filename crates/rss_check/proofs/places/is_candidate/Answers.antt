use Rattle.std.proofs.Common.{◌∙◌, sym, refl, true, false}
use Rattle.plain_model.specs.Orders.{placeable}
use Rattle.rss_check.specs.Places.{kept}
use Rattle.rss_check.proofs.Placed.{candidate_by}
use Rattle.rss_check.proofs.places.is_candidate.Goals as goal

pub returns-then-are_ended_within : goal.returns-then-are_ended_within
returns-then-are_ended_within c =
    candidate_by c.args.h.now c.args.c.now (kept c.args.places.now) true c.are_placeable.result c.requires.placed
    (sym c.if-are_ended_within.true ∙ c.are_ended_within.ensures) c.are_placeable.ensures

pub returns-else-are_ended_within : goal.returns-else-are_ended_within
returns-else-are_ended_within c =
    let k =
    candidate_by c.args.h.now c.args.c.now (kept c.args.places.now) false (placeable c.args.h.now c.args.c.now) c.requires.placed
    (sym c.if-are_ended_within.false ∙ c.are_ended_within.ensures) refl in
    (λ t. k.0 (sym c.if-are_ended_within.false ∙ t), λ m. c.if-are_ended_within.false ∙ k.1 m)
