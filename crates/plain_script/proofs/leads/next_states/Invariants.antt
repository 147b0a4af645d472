use Rattle.std.proofs.Common.{◌≡◌, ◌++◌, drop}
use Rattle.std.specs.List.{flat_map}
use Rattle.plain_script.specs.Standing.{leads_of, passed_of, way}
use Rattle.plain_script.proofs.leads.next_states.Given as goal

-- what was added and what is left are all
abbrev pub invariant-loop-walk : goal.invariant-loop-walk
invariant-loop-walk l = l.next.items ++ flat_map (leads_of l.config l.h l.stage l.place l.told) (drop l.walk-index l.walk-items) ≡ passed_of l.h l.stage l.place l.bases ++ flat_map (leads_of l.config l.h l.stage l.place l.told) (flat_map (way l.config l.h l.stage) l.bases)
