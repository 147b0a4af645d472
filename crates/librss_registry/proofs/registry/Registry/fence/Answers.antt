use Rattle.std.proofs.Common.{ap, ◌∙◌, map, set, get_or}
use Rattle.librss_registry.proofs.Found.{same_map, counts_one}
use Rattle.librss_registry.proofs.registry.Registry.fence.Goals as goal

pub returns-clause-ids : goal.returns-clause-ids
returns-clause-ids g c =
    same_map g.S.Service.service_id c.self.inside.services.items c.unwrap-at.result c.index_mut.result.now c.fence.new.self c.index_mut.ensures.value c.fence.ensures.same
    ∙ ap (map g.S.Service.service_id) c.self.view_is

pub returns-clause-counts : goal.returns-clause-counts
returns-clause-counts g c =
    ap (λ l. map g.S.Service.fences_planned (set l c.unwrap-at.result c.fence.new.self)) c.self.view_is
    ∙ counts_one g.S.Service.service_id g.S.Service.fences_planned c.args.id c.args.self.now c.unwrap-at.result c.index_mut.result.now c.fence.new.self
    (rw c.unwrap-at.ensures at c.place.ensures.found)
    (c.index_mut.ensures.value ∙ ap (λ l. get_or l c.unwrap-at.result c.index_mut.result.now) c.self.view_is)
    c.fence.ensures.counted
