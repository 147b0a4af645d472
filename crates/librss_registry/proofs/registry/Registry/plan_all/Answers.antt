use Rattle.std.proofs.Common.{ap, ◌∙◌, map, None, refl}
use Rattle.rss_tables.specs.Works.{Plan}
use Rattle.session_stub.specs.Picked.{fences_from}
use Rattle.session_stub.proofs.Picks.{plan_all_is}
use Rattle.librss_registry.specs.Registered.{counted}
use Rattle.librss_registry.proofs.registry.Registry.plan_all.Goals as goal

pub returns-clause-fences : goal.returns-clause-fences
returns-clause-fences g c = c.fence_all.ensures.fences ∙ ap (λ (p : Plan). p.fences) (plan_all_is c.args.ctx.now.seen (fences_from c.args.ctx.now.seen None 0 16) c.missing.ensures.services refl)

pub returns-clause-counts : goal.returns-clause-counts
returns-clause-counts g c = c.fence_all.ensures.counts ∙ ap (λ (p : Plan). counted p.fences (map g.S.Service.service_id c.args.self.now) (map g.S.Service.fences_planned c.args.self.now)) (plan_all_is c.args.ctx.now.seen (fences_from c.args.ctx.now.seen None 0 16) c.missing.ensures.services refl)
