use Rattle.librss_registry.proofs.Found.{OthersBefore}
use Rattle.librss_registry.proofs.registry.Registry.place.Given as goal

-- those before have other numbers
abbrev pub invariant-loop-at : goal.invariant-loop-at
invariant-loop-at g l = OthersBefore g.S.Service.service_id l.id l.self l.at
