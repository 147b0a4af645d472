use Rattle.std.proofs.Common.{ap, sym, ◌∙◌, arith, get_or, length}
use Rattle.rss_names.specs.Services.{same_service}
use Rattle.librss_registry.proofs.Found.{others_more, found_here, found_nowhere}
use Rattle.librss_registry.proofs.registry.Registry.place.Goals as goal

pub returns-then-is_same_service-clause-found : goal.returns-then-is_same_service-clause-found
returns-then-is_same_service-clause-found g c =
    found_here g.S.Service.service_id c.args.id c.args.self.now c.loop-at.at c.index.result.now c.loop-at.invariant
    (omega (arith, c.loop-at-test.true, c.len-at-end.ensures, c.self.inside.services.ok.0, ap length c.self.view_is))
    (c.index.ensures ∙ ap (λ l. get_or l c.loop-at.at c.index.result.now) c.self.view_is)
    (ap (same_service c.args.id) (sym c.id.ensures.id) ∙ sym c.is_same_service.ensures ∙ c.if-is_same_service.true)

pub loop-at-preserved : goal.loop-at-preserved
loop-at-preserved g c =
    others_more g.S.Service.service_id c.args.id c.args.self.now c.loop-at.at c.index.result.now c.loop-at.invariant
    (c.index.ensures ∙ ap (λ l. get_or l c.loop-at.at c.index.result.now) c.self.view_is)
    (ap (same_service c.args.id) (sym c.id.ensures.id) ∙ sym c.is_same_service.ensures ∙ c.if-is_same_service.false)

pub returns-clause-none : goal.returns-clause-none
returns-clause-none g c =
    found_nowhere g.S.Service.service_id c.args.id c.args.self.now c.loop-at.at c.loop-at.invariant
    (omega (arith, c.loop-at-test.false, c.len-at-end.ensures, c.self.inside.services.ok.0, ap length c.self.view_is))
