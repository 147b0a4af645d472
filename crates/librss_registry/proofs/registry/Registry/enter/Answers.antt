use Rattle.std.proofs.Common.{ap, ◌∙◌, map}
use Rattle.librss_registry.proofs.Found.{same_map}
use Rattle.librss_registry.proofs.registry.Registry.enter.Goals as goal

pub returns-in-Some-clause-ids : goal.returns-in-Some-clause-ids
returns-in-Some-clause-ids g c =
    same_map g.S.Service.service_id c.self.inside.services.items c.in-Some.at c.index_mut.result.now c.enter.new.self c.index_mut.ensures.value c.enter.ensures.same
    ∙ ap (map g.S.Service.service_id) c.self.view_is

pub returns-in-Some-clause-counts : goal.returns-in-Some-clause-counts
returns-in-Some-clause-counts g c =
    same_map g.S.Service.fences_planned c.self.inside.services.items c.in-Some.at c.index_mut.result.now c.enter.new.self c.index_mut.ensures.value c.enter.ensures.count
    ∙ ap (map g.S.Service.fences_planned) c.self.view_is
