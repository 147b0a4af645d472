use Rattle.std.proofs.Common.{ap, ◌∙◌, map, Some}
use Rattle.session_stub.proofs.Picks.{picks_all, plan_for_is}
use Rattle.librss_registry.specs.Registered.{counted}
use Rattle.librss_registry.proofs.registry.Registry.plan.Goals as goal

pub returns-clause-plan : goal.returns-clause-plan
returns-clause-plan g c = c.of.ensures ∙ plan_for_is c.args.ctx.now.seen c.args.id c.fence_all-fences.result _ c.missing.ensures.services c.fence_all-fences.ensures.fences c.enters-enter.ensures

pub returns-clause-counts : goal.returns-clause-counts
returns-clause-counts g c = c.fence_all-fences.ensures.counts ∙ ap (λ f. counted f (map g.S.Service.service_id c.args.self.now) (map g.S.Service.fences_planned c.args.self.now)) (picks_all c.args.ctx.now.seen (Some c.args.id) c.missing.ensures.services)
